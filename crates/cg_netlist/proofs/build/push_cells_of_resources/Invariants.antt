use Rattle.std.proofs.Common.{◌≡◌, ◌++◌, take, flat_map}
use Rattle.cg_netlist.specs.Netlist.{resource_cells}
use Rattle.cg_netlist.proofs.build.push_cells_of_resources.Given as goal

abbrev pub invariant-loop-resource : goal.invariant-loop-resource
invariant-loop-resource l = l.cells.items ≡ l.fn.cells.items ++ flat_map (resource_cells l.arch) (take l.resource-index l.resources)
