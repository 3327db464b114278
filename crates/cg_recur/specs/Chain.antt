-- Chains of edges under names of any sort; closed chains that are too long for an interval (the
-- recurrence constraint of modulo scheduling, Rau 1994); the earliest times of nodes.
use Rattle.std.specs.Prelude.{◌≡◌, ℕ, ◌+◌, ◌*◌, ◌<◌, ◌≤◌, List, [], ◌∷◌, length, Option, Some, None, slice_get}
use Rattle.cg_recur.specs.declared.edge.Edge.{Edge}

-- the parts of an edge, if there is one
abbrev pub latency_of : Option Edge → ℕ
latency_of (Some e) = e.latency
latency_of None = 0

abbrev pub distance_of : Option Edge → ℕ
distance_of (Some e) = e.distance
distance_of None = 0

abbrev pub source_of : Option Edge → ℕ
source_of (Some e) = e.source
source_of None = 0

module _ {X : Type 0} (edge : X → Option Edge) where
  -- the named edges lead from node u to node v, one after another
  abbrev pub Goes : ℕ → List X → ℕ → Type 0
  Goes u [] v = u ≡ v
  Goes u (x ∷ xs) v = (e : Edge) × (edge x ≡ Some e) × (e.source ≡ u) × Goes e.target xs v

  -- the sums of their latencies and of their distances
  abbrev pub latencies : List X → ℕ
  latencies [] = 0
  latencies (x ∷ xs) = latency_of (edge x) + latencies xs

  abbrev pub distances : List X → ℕ
  distances [] = 0
  distances (x ∷ xs) = distance_of (edge x) + distances xs

  -- a non-empty closed chain whose latencies exceed ii times its distances
  pub record IsCycle (ii : ℕ) (xs : List X) : Type 0 where
    pub some : 0 < length xs
    pub closed : (u : ℕ) × Goes u xs u
    pub long : ii * distances xs < latencies xs

  -- a chain that repeats no node and begins at its least one
  pub record IsShown (xs : List X) : Type 0 where
    pub apart : (i j : ℕ) (x y : X) → i < j → slice_get xs i ≡ Some x → slice_get xs j ≡ Some y → source_of (edge x) ≡ source_of (edge y) → ⊥
    pub least : (j : ℕ) (x y : X) → slice_get xs 0 ≡ Some x → slice_get xs j ≡ Some y → source_of (edge x) ≤ source_of (edge y)

  -- t is the greatest sum of latencies less ii times distances over the chains that end in v, the empty one included
  pub record IsEarly (ii v t : ℕ) : Type 0 where
    pub reached : (u : ℕ) × (xs : List X) × Goes u xs v × (latencies xs ≡ t + ii * distances xs)
    pub greatest : (u : ℕ) (xs : List X) → Goes u xs v → latencies xs ≤ t + ii * distances xs

  -- no edge requires more than these times give
  abbrev pub IsTight : ℕ → (ℕ → ℕ) → Type 0
  IsTight ii time = (x : X) (e : Edge) → edge x ≡ Some e → time e.source + e.latency ≤ time e.target + ii * e.distance
