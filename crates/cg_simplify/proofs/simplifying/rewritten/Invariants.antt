use Rattle.std.proofs.Common.{◌≤◌}
use Rattle.cg_model.specs.Kernel.{size}
use Rattle.cg_simplify_draft.specs.Rewritten.{IsRewritten}
use Rattle.cg_simplify.proofs.simplifying.rewritten.Given as goal

abbrev pub invariant-loop : goal.invariant-loop
invariant-loop l = IsRewritten l.given l.passed.kernel × (size l.passed.kernel ≤ size l.given)
