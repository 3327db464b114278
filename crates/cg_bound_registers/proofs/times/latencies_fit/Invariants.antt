use Rattle.std.proofs.Common.{ℕ, ◌<◌}
use Rattle.cg_bound_registers.specs.Times.{Fits}
use Rattle.cg_bound_registers.proofs.times.latencies_fit.Given as goal

abbrev pub invariant-loop-w : goal.invariant-loop-w
invariant-loop-w l = (w : ℕ) → w < l.w → Fits l.arch l.kernel l.times w
