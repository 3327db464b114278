use Rattle.std.proofs.Common.{◌≡◌, ◌+◌, ◌≤◌}
use Rattle.cg_list_laws.specs.Below.{greatest_below}
use Rattle.std.specs.Prelude.{if◌then◌else◌}
use Rattle.cg_model.specs.Array.{resource}
use Rattle.cg_occupancy.specs.Counts.{same_kind}
use Rattle.cg_layout.specs.Layout.{rank}
use Rattle.cg_layout.proofs.tiled.Tiled.most_of.Given as goal

abbrev pub invariant-loop-resource : goal.invariant-loop-resource
invariant-loop-resource l = (l.most ≡ greatest_below (λ r. if same_kind (resource l.self r).kind l.kind then rank l.self r + 1 else 0) l.resource) × (l.most ≤ 4096)
