use Rattle.cg_bound_routes.proofs.Tables.{AreThreeTo}
use Rattle.cg_bound_routes.proofs.table.Ways.three_a_node.Given as goal

abbrev pub invariant-loop-node : goal.invariant-loop-node
invariant-loop-node l = AreThreeTo l.self l.node l.list.items
