use Rattle.cg_c_meaning.proofs.Grammatical.{sources_typed}
use Rattle.cg_c_meaning.proofs.sources_are_typed.Goals as goal

pub returns : goal.returns
returns c = sources_typed
