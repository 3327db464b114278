use Rattle.std.proofs.Common.{◌≡◌, ◌≤◌}
use Rattle.cg_list_laws.specs.Below.{sum_below}
use Rattle.cg_occupancy.proofs.Counted.{start_in}
use Rattle.cg_occupancy.proofs.marks.Marks.starts_of.Given as goal

abbrev pub invariant-loop-slot : goal.invariant-loop-slot
invariant-loop-slot l = (l.count ≡ sum_below (start_in l.self l.unit) l.slot) × (l.count ≤ l.slot)
