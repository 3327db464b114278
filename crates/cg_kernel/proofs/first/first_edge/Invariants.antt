use Rattle.std.proofs.Common.{◌≡◌, drop}
use Rattle.cg_model.specs.First.{first_from}
use Rattle.cg_kernel.specs.Rules.{applies_to_edge}
use Rattle.cg_kernel.proofs.first.first_edge.Given as goal

abbrev pub invariant-loop-number : goal.invariant-loop-number
invariant-loop-number l = first_from (λ e edge. applies_to_edge l.rule l.written edge) l.number (drop l.number l.order) ≡ first_from (λ e edge. applies_to_edge l.rule l.written edge) 0 l.order
