-- A table of how often each number occurs in a list.
use Rattle.std.specs.Prelude.{◌≡◌, ℕ, ◌==◌, ◌<◌, ◌≤◌, Bool, List, length, count_by, Option, Some, None, slice_get, slice_index_or}
use Rattle.std.specs.List.{position_from}
pub use Rattle.cg_mapping.specs.declared.tally.Seen.{Seen}
use Rattle.cg_mapping.specs.declared.tally.Seen.TheVariants.{Never, Once, Again}

-- how often a test passes in a list, and where, if exactly once
abbrev pub IsSeen : {X : Type 0} → (X → Bool) → List X → Seen → Type 0
IsSeen test xs Never = count_by test xs ≡ 0
IsSeen test xs (Once i) = (count_by test xs ≡ 1) × (position_from test 0 xs ≡ Some i)
IsSeen test xs Again = 2 ≤ count_by test xs

-- the table has for each number below its length how often it occurs in the list
pub record IsTally (table : List Seen) (size : ℕ) (keys : List ℕ) : Type 0 where
  pub len : length table ≡ size
  pub seen : (k : ℕ) → k < size → IsSeen (λ key. key == k) keys (slice_index_or table k Never)

-- the count after one more occurrence
abbrev pub seen_after : Seen → ℕ → Seen
seen_after Never i = Once i
seen_after (Once j) i = Again
seen_after Again i = Again

-- the item of a number that occurs exactly once
abbrev pub picked : {X : Type 0} → Seen → List X → Option X
picked Never xs = None
picked (Once i) xs = slice_get xs i
picked Again xs = None
