use Rattle.std.proofs.Common.{◌≡◌, map, take}
use Rattle.serde_json.specs.View.{view}
use Rattle.cg_kernel_text.specs.Printed.{edge_data}
use Rattle.cg_kernel_text.proofs.print.order_value.Given as goal

abbrev pub invariant-loop-edge : goal.invariant-loop-edge
invariant-loop-edge l = map view l.list.items ≡ map (edge_data l.nodes) (take l.edge-index l.order)
