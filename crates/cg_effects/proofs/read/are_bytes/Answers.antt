use Rattle.std.proofs.Common.{arith}
use Rattle.cg_effects.proofs.read.are_bytes.Goals as goal

pub returns : goal.returns
returns c = λ i. let h = c.type_inv._bytes i in omega arith
