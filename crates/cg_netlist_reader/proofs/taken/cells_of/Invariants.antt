use Rattle.std.proofs.Common.{◌≡◌, map, take}
use Rattle.cg_verilog.specs.Read as modules
use Rattle.cg_netlist.specs.Text.{cell_of}
use Rattle.cg_netlist_reader.proofs.taken.cells_of.Given as goal

abbrev pub invariant-loop-cell : goal.invariant-loop-cell
invariant-loop-cell l = map cell_of l.own.items ≡ map modules.cell_of (take l.cell-index l.cells)
