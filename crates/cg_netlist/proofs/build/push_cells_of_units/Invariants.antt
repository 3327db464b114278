use Rattle.std.proofs.Common.{◌≡◌, ◌++◌, take, map}
use Rattle.cg_netlist.specs.Netlist.{unit_cell}
use Rattle.cg_netlist.proofs.build.push_cells_of_units.Given as goal

abbrev pub invariant-loop-unit : goal.invariant-loop-unit
invariant-loop-unit l = l.cells.items ≡ l.fn.cells.items ++ map (unit_cell l.arch) (take l.unit-index l.units)
