-- The data kept of a placement besides its places.
use Rattle.std.specs.Prelude.{◌≡◌, ◌≤◌, ℕ, List, length}
use Rattle.cg_model.specs.declared.kernel.OrderEdge.{OrderEdge}
use Rattle.cg_model.specs.Limits.{most_units}
use Rattle.cg_model.specs.Kernel.{size}
use Rattle.cg_place.specs.Placed.{Placed, IsPlacement}
use Rattle.cg_place.specs.Counts.{order_violations}
use Rattle.cg_place.specs.Reservations.{IsTable}
use Rattle.cg_place.specs.Touching.{AreTouching}

-- the numbers of nodes by unit and slot, the order edges of each node, and the number of broken ones
pub record IsKept (P : Placed) (counts : List ℕ) (lists : List (List OrderEdge)) (broken : ℕ) : Type 0 where
  pub placement : IsPlacement P
  pub units : length P.arch.units ≤ most_units
  pub table : IsTable (length P.arch.units) P.ii P.places counts
  pub touching : AreTouching (size P.kernel) P.kernel.order lists
  pub violations : broken ≡ order_violations P.kernel P.ii P.places
