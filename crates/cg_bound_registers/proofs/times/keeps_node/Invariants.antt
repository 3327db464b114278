use Rattle.std.proofs.Common.{◌≡◌, ℕ, ◌<◌, Some}
use Rattle.cg_bound_registers.specs.Pressure.{Dependence, data_edge}
use Rattle.cg_bound_registers.specs.Times.{Keeps}
use Rattle.cg_bound_registers.proofs.times.keeps_node.Given as goal

abbrev pub invariant-loop-p : goal.invariant-loop-p
invariant-loop-p l = (p : ℕ) → p < l.p → (a : Dependence) → data_edge l.kernel l.v p ≡ Some a → Keeps l.hops l.ii l.times a
