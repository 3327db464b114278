use Rattle.std.proofs.Common.{◌≡◌, ℕ, ◌<◌, Some}
use Rattle.cg_bound_registers.specs.Pressure.{Dependence, data_edge}
use Rattle.cg_bound_registers.specs.Times.{Keeps}
use Rattle.cg_bound_registers.proofs.times.keeps_all.Given as goal

abbrev pub invariant-loop-v : goal.invariant-loop-v
invariant-loop-v l = (v : ℕ) → v < l.v → (p : ℕ) (a : Dependence) → data_edge l.kernel v p ≡ Some a → Keeps l.hops l.ii l.times a
