use Rattle.std.proofs.Common.{◌≡◌, ◌≤◌}
use Rattle.cg_list_laws.specs.Below.{sum_below}
use Rattle.cg_occupancy.proofs.Counted.{of_kind}
use Rattle.cg_occupancy.proofs.marks.Marks.resources_of.Given as goal

abbrev pub invariant-loop-resource : goal.invariant-loop-resource
invariant-loop-resource l = (l.count ≡ sum_below (of_kind l.self l.kind) l.resource) × (l.count ≤ l.resource)
