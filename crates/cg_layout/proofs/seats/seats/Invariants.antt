use Rattle.std.proofs.Common.{◌≡◌, ℕ, ◌<◌, ◌∷◌, []}
use Rattle.cg_list_laws.specs.Below.{lists_below}
use Rattle.cg_layout.specs.Layout.{seat}
use Rattle.cg_layout.specs.Places.{IsNear}
use Rattle.cg_layout.proofs.seats.seats.Given as goal

abbrev pub invariant-loop-resource : goal.invariant-loop-resource
invariant-loop-resource l = record {
  list : l.spots.items ≡ lists_below (λ r. seat l.tiled l.frame r ∷ []) l.resource;
  near : (k : ℕ) → k < l.resource → IsNear (seat l.tiled l.frame k);
}
