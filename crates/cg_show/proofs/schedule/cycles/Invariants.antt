use Rattle.std.proofs.Common.{◌≡◌, ◌<◌, ◌^◌}
use Rattle.cg_list_laws.specs.Below.{greatest_below}
use Rattle.cg_show.specs.Schedule.{end_of}
use Rattle.cg_show.proofs.schedule.cycles.Given as goal

abbrev pub invariant-loop-node : goal.invariant-loop-node
invariant-loop-node l = (l.most ≡ greatest_below (end_of l.marks) l.node) × (l.most < 2 ^ 33)
