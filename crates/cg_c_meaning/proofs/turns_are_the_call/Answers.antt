use Rattle.cg_c_meaning.proofs.Nesting.{turns_call}
use Rattle.cg_c_meaning.proofs.turns_are_the_call.Goals as goal

pub returns : goal.returns
returns c = turns_call
