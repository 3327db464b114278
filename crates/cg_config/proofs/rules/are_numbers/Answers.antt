use Rattle.std.proofs.Common.{arith}
use Rattle.cg_config.proofs.rules.are_numbers.Goals as goal

pub returns : goal.returns
returns c = λ k. let h = c.type_inv._numbers k in omega arith
