use Rattle.std.proofs.Common.{◌≡◌}
use Rattle.std.specs.Prelude.{string_bytes}
use Rattle.cg_model.specs.Array.{unit}
use Rattle.cg_show_table.specs.Columns.{row_text, unit_cell}
use Rattle.cg_show_table.proofs.columns.unit_line.Given as goal

abbrev pub invariant-loop-column : goal.invariant-loop-column
invariant-loop-column l = string_bytes l.row ≡ row_text l.grid (unit l.marks.arch l.unit).name (unit_cell l.marks l.grid l.block l.unit) l.column
