use Rattle.std.proofs.Common.{map}
use Rattle.std.specs.Prelude.{string_bytes}
use Rattle.cg_show_table.specs.Columns.{unit_lines}
use Rattle.cg_list_laws.proofs.Grown.{grown, unbegun}
use Rattle.cg_show_table.proofs.columns.push_units.Goals as goal

pub loop-unit-init : goal.loop-unit-init
loop-unit-init c = unbegun (unit_lines c.args.marks.now c.args.grid c.args.block) (map string_bytes c.args.lines.now.items)

pub loop-unit-preserved : goal.loop-unit-preserved
loop-unit-preserved c =
    grown (unit_lines c.args.marks.now c.args.grid c.args.block) c.loop-unit.unit (map string_bytes c.args.lines.now.items) (map string_bytes c.loop-unit.lines.items) (map string_bytes c.push_unit.new.lines.items) c.loop-unit.invariant c.in_ok-push_unit.ensures
