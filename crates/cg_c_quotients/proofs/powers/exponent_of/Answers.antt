use Rattle.std.proofs.Common.{arith}
use Rattle.cg_c_quotients.proofs.Exponents.{no_power}
use Rattle.cg_c_quotients.proofs.powers.exponent_of.Goals as goal

pub returns : goal.returns
returns c = no_power c.args.number (omega arith) (λ k l. c.loop-bits.invariant k (omega arith))
