use Rattle.std.proofs.Common.{◌≡◌}
use Rattle.cg_simplify_order.proofs.matrix.Matrix.join_at.Given as goal

abbrev pub invariant-loop-from : goal.invariant-loop-from
invariant-loop-from l = l.self ≡ l.fn.self
