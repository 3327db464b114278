use Rattle.std.proofs.Common.{◌≡◌, ◌++◌, take, flat_map}
use Rattle.cg_flat.specs.Text.{resource_line}
use Rattle.cg_flat.proofs.text.push_resources.Given as goal

abbrev pub invariant-loop-resource : goal.invariant-loop-resource
invariant-loop-resource l = l.text.items ≡ l.fn.text.items ++ flat_map resource_line (take l.resource-index l.resources)
