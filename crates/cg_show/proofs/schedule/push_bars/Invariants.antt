use Rattle.std.proofs.Common.{◌≡◌, ◌≤◌, ◌++◌}
use Rattle.cg_list_laws.specs.Below.{lists_below, sum_below}
use Rattle.cg_show.specs.Schedule.{row_by}
use Rattle.cg_show.proofs.Rows.{busy}
use Rattle.cg_show.proofs.schedule.push_bars.Given as goal

abbrev pub invariant-loop-unit : goal.invariant-loop-unit
invariant-loop-unit l =
    (l.text.items ≡ l.fn.text.items ++ lists_below (row_by l.marks) l.unit) × (l.row ≡ sum_below (busy l.marks) l.unit) × (l.row ≤ l.unit)
