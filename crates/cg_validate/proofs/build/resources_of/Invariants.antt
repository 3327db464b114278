use Rattle.std.proofs.Common.{◌≡◌, map, take}
use Rattle.cg_validate.specs.Flat.{resource_of}
use Rattle.cg_validate.proofs.build.resources_of.Given as goal

abbrev pub invariant-loop-resource : goal.invariant-loop-resource
invariant-loop-resource l = l.list.items ≡ map (resource_of l.resources) (take l.resource-index l.resources)
