use Rattle.std.proofs.Common.{◌≡◌, ◌≤◌, ◌*◌}
use Rattle.cg_list_laws.specs.Below.{sum_below}
use Rattle.cg_occupancy.proofs.Counted.{taken_by}
use Rattle.cg_occupancy.proofs.marks.Marks.taken_slots.Given as goal

abbrev pub invariant-loop-resource : goal.invariant-loop-resource
invariant-loop-resource l = (l.count ≡ sum_below (taken_by l.self l.kind) l.resource) × (l.count ≤ 64 * l.resource)
