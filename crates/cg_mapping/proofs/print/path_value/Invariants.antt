use Rattle.std.proofs.Common.{◌≡◌, map, take}
use Rattle.serde_json.specs.View.{view}
use Rattle.cg_mapping.specs.Printed.{step_data}
use Rattle.cg_mapping.proofs.print.path_value.Given as goal

abbrev pub invariant-loop-resource : goal.invariant-loop-resource
invariant-loop-resource l = map view l.list.items ≡ map (step_data l.resources) (take l.resource-index l.path)
