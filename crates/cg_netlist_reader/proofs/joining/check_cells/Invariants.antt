use Rattle.std.proofs.Common.{◌≡◌, take, None}
use Rattle.std.specs.List.{flat_map}
use Rattle.cg_netlist_reader.specs.Reading.{pin_nets}
use Rattle.cg_netlist_reader.specs.Looked.{unknown_by}
use Rattle.cg_netlist_reader.proofs.joining.check_cells.Given as goal

abbrev pub invariant-loop-cell : goal.invariant-loop-cell
invariant-loop-cell l = unknown_by l.numbers (flat_map pin_nets (take l.cell-index l.cells)) ≡ None
