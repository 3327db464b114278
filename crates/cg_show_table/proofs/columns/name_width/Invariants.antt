use Rattle.std.proofs.Common.{◌≡◌, ◌≤◌}
use Rattle.cg_list_laws.specs.Below.{greatest_below}
use Rattle.cg_show_table.specs.Columns.{unit_width}
use Rattle.cg_show_table.proofs.columns.name_width.Given as goal

abbrev pub invariant-loop-unit : goal.invariant-loop-unit
invariant-loop-unit l = (l.width ≡ greatest_below (unit_width l.marks) l.unit) × (l.width ≤ 40)
