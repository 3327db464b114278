use Rattle.std.proofs.Common.{arith}
use Rattle.cg_bound_flow.proofs.find.hops_are_words.Goals as goal

pub returns : goal.returns
returns c = λ k. let h = c.type_inv._hops k in omega arith
