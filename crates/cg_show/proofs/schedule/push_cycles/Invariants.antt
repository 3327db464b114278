use Rattle.std.proofs.Common.{◌≡◌, ◌++◌}
use Rattle.cg_list_laws.specs.Below.{lists_below}
use Rattle.cg_show.specs.Schedule.{cycle_part}
use Rattle.cg_show.proofs.schedule.push_cycles.Given as goal

abbrev pub invariant-loop-cycle : goal.invariant-loop-cycle
invariant-loop-cycle l = l.text.items ≡ l.fn.text.items ++ lists_below cycle_part l.cycle-counter
