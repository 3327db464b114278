use Rattle.std.proofs.Common.{◌≡◌, ◌++◌, map}
use Rattle.std.specs.Prelude.{string_bytes}
use Rattle.cg_list_laws.specs.Below.{lists_below}
use Rattle.cg_show_table.specs.Columns.{unit_lines}
use Rattle.cg_show_table.proofs.columns.push_units.Given as goal

abbrev pub invariant-loop-unit : goal.invariant-loop-unit
invariant-loop-unit l = map string_bytes l.lines.items ≡ map string_bytes l.fn.lines.items ++ lists_below (unit_lines l.marks l.grid l.block) l.unit
