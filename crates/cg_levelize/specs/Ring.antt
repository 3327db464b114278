-- The ring that a path closes.
use Rattle.std.specs.Prelude.{◌≡◌, ℕ, ◌+◌, ◌<◌, ◌≤◌, List, ◌++◌, length, drop, reverse, slice_index, slice_range}

-- a ring of the numbers of a path from one of them on, from the last back to that one, rotated so that the least is
-- first
pub record IsRing (path : List ℕ) (number : ℕ) (ring : List ℕ) : Type 0 where
  pub from : ℕ
  pub place : ℕ
  pub starts : slice_index path from ≡ number
  pub after : from ≤ place
  pub within : place < length path
  pub least : (k : ℕ) → from ≤ k → k < length path → slice_index path place ≤ slice_index path k
  pub items : ring ≡ reverse (slice_range path from (place + 1)) ++ reverse (drop (place + 1) path)
