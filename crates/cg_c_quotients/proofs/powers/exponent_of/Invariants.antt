use Rattle.std.proofs.Common.{ℕ, ◌<◌, ◌^◌, ◌≢◌}
use Rattle.cg_c_quotients.proofs.powers.exponent_of.Given as goal

abbrev pub invariant-loop-bits : goal.invariant-loop-bits
invariant-loop-bits l = (k : ℕ) → k < l.bits → l.number ≢ 2 ^ k
