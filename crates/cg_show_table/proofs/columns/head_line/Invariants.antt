use Rattle.std.proofs.Common.{◌≡◌, []}
use Rattle.std.specs.Prelude.{string_bytes}
use Rattle.cg_show_table.specs.Columns.{row_text, head_cell}
use Rattle.cg_show_table.proofs.columns.head_line.Given as goal

abbrev pub invariant-loop-column : goal.invariant-loop-column
invariant-loop-column l = string_bytes l.row ≡ row_text l.grid [] (head_cell l.grid l.block) l.column
