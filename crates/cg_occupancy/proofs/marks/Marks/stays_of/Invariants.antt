use Rattle.std.proofs.Common.{◌≡◌, ◌≤◌}
use Rattle.cg_list_laws.specs.Below.{sum_below}
use Rattle.cg_occupancy.proofs.Counted.{stay_in}
use Rattle.cg_occupancy.proofs.marks.Marks.stays_of.Given as goal

abbrev pub invariant-loop-slot : goal.invariant-loop-slot
invariant-loop-slot l = (l.count ≡ sum_below (stay_in l.self l.resource) l.slot) × (l.count ≤ l.slot)
