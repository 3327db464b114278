use Rattle.std.proofs.Common.{◌≡◌, ◌∷◌, []}
use Rattle.cg_list_laws.specs.Below.{lists_below}
use Rattle.cg_layout.specs.Layout.{box}
use Rattle.cg_layout.proofs.seats.boxes.Given as goal

abbrev pub invariant-loop-unit : goal.invariant-loop-unit
invariant-loop-unit l = l.spots.items ≡ lists_below (λ x. box l.tiled l.frame x ∷ []) l.unit
