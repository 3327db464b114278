-- The order edges of each node.
use Rattle.std.specs.Prelude.{◌≡◌, ℕ, ◌<◌, eqb, if◌then◌else◌, Bool, ◌||◌, List, [], ◌∷◌, ◌++◌, length, filter, All, slice_index_or}
use Rattle.cg_model.specs.declared.kernel.OrderEdge.{OrderEdge}

-- the order edge begins or ends at node v
abbrev pub touches : ℕ → OrderEdge → Bool
touches v e = eqb e.from v || eqb e.to v

-- the edges join nodes
abbrev pub AreKnown : ℕ → List OrderEdge → Type 0
AreKnown n edges = All (λ e. (e.from < n) × (e.to < n)) edges

-- list number v
abbrev pub list_of : List (List OrderEdge) → ℕ → List OrderEdge
list_of lists v = slice_index_or lists v []

-- for each of n nodes those of the edges that begin or end there
pub record AreTouching (n : ℕ) (edges : List OrderEdge) (lists : List (List OrderEdge)) : Type 0 where
  pub each : length lists ≡ n
  pub right : (v : ℕ) → v < n → list_of lists v ≡ filter (touches v) edges

-- one more edge
pub record IsAdded (e : OrderEdge) (lists lists' : List (List OrderEdge)) : Type 0 where
  pub each : length lists' ≡ length lists
  pub right : (v : ℕ) → v < length lists → list_of lists' v ≡ list_of lists v ++ (if touches v e then e ∷ [] else [])
