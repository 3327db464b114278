use Rattle.std.proofs.Common.{◌≡◌, map, take}
use Rattle.serde_json.specs.View.{view}
use Rattle.cg_mapping.specs.Printed.{route_data}
use Rattle.cg_mapping.proofs.print.routes_value.Given as goal

abbrev pub invariant-loop-route : goal.invariant-loop-route
invariant-loop-route l = map view l.list.items ≡ map (route_data l.nodes l.resources) (take l.route-index l.routes)
