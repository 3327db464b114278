use Rattle.std.proofs.Common.{◌≡◌, ◌≤◌, ◌*◌}
use Rattle.cg_list_laws.specs.Below.{sum_below}
use Rattle.cg_occupancy.specs.Counts.{starts_of}
use Rattle.cg_occupancy.proofs.marks.Marks.busy_slots.Given as goal

abbrev pub invariant-loop-unit : goal.invariant-loop-unit
invariant-loop-unit l = (l.count ≡ sum_below (starts_of l.self) l.unit) × (l.count ≤ 64 * l.unit)
