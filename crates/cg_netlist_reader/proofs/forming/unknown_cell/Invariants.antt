use Rattle.std.proofs.Common.{ℕ, ◌<◌, get_or, map}
use Rattle.cg_verilog.specs.Read as modules
use Rattle.cg_netlist.specs.declared.parts.Cell.{Cell}
use Rattle.cg_netlist_reader.specs.Reading.{IsFormed}
use Rattle.cg_netlist_reader.specs.Ported.{cell_taken}
use Rattle.cg_netlist_reader.proofs.forming.unknown_cell.Given as goal

abbrev pub invariant-loop-number : goal.invariant-loop-number
invariant-loop-number l = (k : ℕ) (d : Cell) → k < l.number → IsFormed (get_or (map cell_taken (map modules.cell_of l.cells)) k d)
