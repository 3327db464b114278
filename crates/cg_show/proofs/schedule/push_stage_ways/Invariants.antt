use Rattle.std.proofs.Common.{◌≡◌, ◌++◌}
use Rattle.cg_list_laws.specs.Below.{lists_below}
use Rattle.cg_show.specs.Schedule.{stage_line}
use Rattle.cg_show.proofs.schedule.push_stage_ways.Given as goal

abbrev pub invariant-loop-stage : goal.invariant-loop-stage
invariant-loop-stage l = l.ways.items ≡ l.fn.ways.items ++ lists_below (stage_line l.marks l.rows) l.stage
