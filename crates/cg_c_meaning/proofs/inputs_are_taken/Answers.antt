use Rattle.cg_c_meaning.proofs.Taking.{expressions_take, indices_take, statements_take, blocks_take}
use Rattle.cg_c_meaning.proofs.inputs_are_taken.Goals as goal

pub returns : goal.returns
returns c = record { expressions = expressions_take; indices = indices_take; statements = statements_take; blocks = blocks_take }
