-- Lists one after another in one list.
use Rattle.std.specs.Prelude.{◌≡◌, ℕ, suc, ◌+◌, ◌<◌, ◌≤◌, List, length, slice_index, slice_range}

-- list number k of the first n lies between starts k and k + 1
pub record AreParts {X : Type 0} (part : ℕ → List X) (n : ℕ) (items : List X) (starts : List ℕ) : Type 0 where
  pub each : length starts ≡ suc n
  pub order : (k : ℕ) → k < n → slice_index starts k ≤ slice_index starts (k + 1)
  pub within : (k : ℕ) → k ≤ n → slice_index starts k ≤ length items
  pub last : slice_index starts n ≡ length items
  pub parts : (k : ℕ) → k < n → slice_range items (slice_index starts k) (slice_index starts (k + 1)) ≡ part k
