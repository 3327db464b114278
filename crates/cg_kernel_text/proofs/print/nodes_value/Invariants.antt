use Rattle.std.proofs.Common.{◌≡◌, map, take}
use Rattle.serde_json.specs.View.{view}
use Rattle.cg_kernel_text.specs.Printed.{node_data}
use Rattle.cg_kernel_text.proofs.print.nodes_value.Given as goal

abbrev pub invariant-loop-node : goal.invariant-loop-node
invariant-loop-node l = map view l.list.items ≡ map (node_data l.nodes) (take l.node-index l.nodes)
