use Rattle.std.proofs.Common.{◌≡◌, ℕ, ◌<◌, Some}
use Rattle.cg_bound_registers.specs.Pressure.{Dependence, order_edge}
use Rattle.cg_bound_registers.specs.Times.{Follows}
use Rattle.cg_bound_registers.proofs.times.follows_all.Given as goal

abbrev pub invariant-loop-e : goal.invariant-loop-e
invariant-loop-e l = (e : ℕ) → e < l.e → (a : Dependence) → order_edge l.kernel e ≡ Some a → Follows l.ii l.times a
