use Rattle.std.proofs.Common.{ℕ, ◌<◌}
use Rattle.cg_bound_routes.specs.Table.{IsMissing}
use Rattle.cg_bound_routes.proofs.missing.first_at.Given as goal

abbrev pub invariant-loop-arg : goal.invariant-loop-arg
invariant-loop-arg l = (q : ℕ) → q < l.arg → IsMissing l.kernel l.ways l.node q → ⊥
