use Rattle.std.proofs.Common.{◌≡◌, ◌++◌}
use Rattle.cg_list_laws.specs.Below.{lists_below}
use Rattle.cg_show.specs.Schedule.{bar_in}
use Rattle.cg_show.proofs.schedule.push_unit_bars.Given as goal

abbrev pub invariant-loop-slot : goal.invariant-loop-slot
invariant-loop-slot l = l.text.items ≡ l.fn.text.items ++ lists_below (bar_in l.marks l.unit l.top) l.slot
