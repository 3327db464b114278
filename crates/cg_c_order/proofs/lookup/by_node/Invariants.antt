use Rattle.std.proofs.Common.{◌≡◌}
use Rattle.cg_c_order.specs.Accesses.{by_node}
use Rattle.cg_c_order.proofs.lookup.by_node.Given as goal

abbrev pub invariant-loop-node : goal.invariant-loop-node
invariant-loop-node l = l.table.items ≡ by_node l.node l.accesses
