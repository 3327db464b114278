use Rattle.std.proofs.Common.{◌≡◌, drop}
use Rattle.std.specs.Prelude.{not}
use Rattle.cg_model.specs.First.{first_from}
use Rattle.cg_check.specs.Rules.{is_after}
use Rattle.cg_check.proofs.placing.late_edge.Given as goal

abbrev pub invariant-loop-number : goal.invariant-loop-number
invariant-loop-number l = first_from (λ e edge. not (is_after l.mapping edge)) l.number (drop l.number l.kernel.order) ≡ first_from (λ e edge. not (is_after l.mapping edge)) 0 l.kernel.order
