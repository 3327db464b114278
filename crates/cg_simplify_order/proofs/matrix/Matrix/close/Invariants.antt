use Rattle.std.proofs.Common.{◌≡◌}
use Rattle.cg_simplify_order.proofs.matrix.Matrix.close.Given as goal

abbrev pub invariant-loop-middle : goal.invariant-loop-middle
invariant-loop-middle l = l.self ≡ l.fn.self
