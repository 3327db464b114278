use Rattle.cg_simplify_order.specs.Found.{AreAmong}
use Rattle.cg_simplify_order.proofs.reduce.kept.Given as goal

abbrev pub invariant-loop-number : goal.invariant-loop-number
invariant-loop-number l = AreAmong l.needs l.edges.items
