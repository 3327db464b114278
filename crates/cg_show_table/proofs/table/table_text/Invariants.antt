use Rattle.std.proofs.Common.{◌≡◌, map, take}
use Rattle.std.specs.Prelude.{string_bytes}
use Rattle.cg_show_table.specs.Table.{text_of}
use Rattle.cg_show_table.proofs.table.table_text.Given as goal

abbrev pub invariant-loop-line : goal.invariant-loop-line
invariant-loop-line l = l.text.items ≡ text_of (map string_bytes (take l.line-index l.lines))
