-- Edge operands that are routed, or get their old routes back, one after another.
use Rattle.std.specs.Prelude.{◌≡◌, ℕ, ◌<◌, All, List, [], ◌∷◌, Option, Some, None, slice_get}
use Rattle.cg_model.specs.declared.mapping.Place.{Place}
use Rattle.cg_model.specs.Array.{Arch}
use Rattle.cg_route.specs.Least.{IsTimedPath}
use Rattle.cg_walk_spec.specs.State.{State, EdgeOperand, ends_of}

-- each number is less than all after it
abbrev pub Rising : List ℕ → Type 0
Rising [] = Unit {0}
Rising (i ∷ is) = All (λ j. i < j) is × Rising is

-- none of these edge operands has a route
abbrev pub Pending : List ℕ → State → Type 0
Pending is S = All (λ i. slice_get S.routes i ≡ Some None) is

-- a route that is a path between the ends of its edge operand, or none
abbrev pub Fits : Arch → ℕ → List Place → EdgeOperand → Option (List ℕ) → Type 0
Fits A ii places e None = Unit {0}
Fits A ii places e (Some path) = IsTimedPath A (ends_of A ii places e) path
