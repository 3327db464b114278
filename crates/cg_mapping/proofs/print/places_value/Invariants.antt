use Rattle.std.proofs.Common.{◌≡◌, ◌++◌, map, drop}
use Rattle.serde_json.specs.View.{view}
use Rattle.cg_mapping.specs.Printed.{places_data}
use Rattle.cg_mapping.proofs.print.places_value.Given as goal

abbrev pub invariant-loop-number : goal.invariant-loop-number
invariant-loop-number l = map view l.list.items ++ places_data l.nodes l.units l.number (drop l.number l.places) ≡ places_data l.nodes l.units 0 l.places
