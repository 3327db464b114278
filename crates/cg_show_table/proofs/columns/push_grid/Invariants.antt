use Rattle.std.proofs.Common.{◌≡◌, ◌++◌, map}
use Rattle.std.specs.Prelude.{string_bytes}
use Rattle.cg_list_laws.specs.Below.{lists_below}
use Rattle.cg_show_table.specs.Columns.{block_lines}
use Rattle.cg_show_table.proofs.columns.push_grid.Given as goal

abbrev pub invariant-loop-block : goal.invariant-loop-block
invariant-loop-block l = map string_bytes l.lines.items ≡ map string_bytes l.fn.lines.items ++ lists_below (block_lines l.marks l.grid) l.block
