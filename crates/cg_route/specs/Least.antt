-- Timed paths in the modulo routing resource graph (Mei et al. 2002), and the least one: of least price, and among
-- those of equal price the first in lexicographic order.
use Rattle.std.specs.Prelude.{◌≡◌, ℕ, ◌+◌, ◌-◌, ◌*◌, ◌<◌, ◌≤◌, ◌⊎◌, List, [], ◌∷◌, Option, Some, None}
use Rattle.cg_model.specs.Array.{Arch}
use Rattle.cg_model.specs.Mapping.{Goes}
use Rattle.cg_congestion.specs.Table.{Table}
use Rattle.cg_route.specs.Prices.{price}

-- the resources and times at which a path begins and ends
pub record Ends : Type 0 where
  pub from : ℕ
  pub start : ℕ
  pub to : ℕ
  pub end : ℕ

-- a path between two timed ends: it goes along links, and each link takes its delay
abbrev pub IsTimedPath : Arch → Ends → List ℕ → Type 0
IsTimedPath A ends [] = ⊥
IsTimedPath A ends (q ∷ path) = (q ≡ ends.from) × Goes A ends.from ends.start path ends.to ends.end

-- xs doesn't come after ys in lexicographic order
abbrev pub IsNotAfter : List ℕ → List ℕ → Type 0
IsNotAfter [] ys = Unit {0}
IsNotAfter (x ∷ xs) [] = ⊥
IsNotAfter (x ∷ xs) (y ∷ ys) = (x < y) ⊎ ((x ≡ y) × IsNotAfter xs ys)

-- of less price, or of equal price and not after
abbrev pub IsAtMost : ℕ → List ℕ → ℕ → List ℕ → Type 0
IsAtMost p xs q ys = (p < q) ⊎ ((p ≡ q) × IsNotAfter xs ys)

-- the least timed path of the value of u
pub record IsLeastPath (T : Table) (u : ℕ) (ends : Ends) (path : List ℕ) : Type 0 where
  pub is_path : IsTimedPath T.arch ends path
  pub least : (other : List ℕ) → IsTimedPath T.arch ends other →
      IsAtMost (price T u ends.start path) path (price T u ends.start other) other

-- the length of the longest paths that are searched for, in cycles
abbrev pub longest : ℕ → ℕ
longest ii = 6 * ii + 32

-- the ends are in order, and no further apart than the longest paths
abbrev pub AreNear : ℕ → Ends → Type 0
AreNear ii ends = (ends.start ≤ ends.end) × (ends.end - ends.start ≤ longest ii)

-- the least path, if the ends are near; none if they aren't, or no path leads from one to the other
abbrev pub IsFound : Table → ℕ → Ends → Option (List ℕ) → Type 0
IsFound T u ends (Some path) = IsLeastPath T u ends path × AreNear T.interval ends
IsFound T u ends None = AreNear T.interval ends → (path : List ℕ) → IsTimedPath T.arch ends path → ⊥
