-- The values of the last turns, a row for each turn modulo 5.
use Rattle.std.specs.Prelude.{◌≡◌, ℕ, ◌+◌, ◌-◌, ◌*◌, ◌%◌, ◌<◌, ◌≤◌, ◌⊎◌, List, length, slice_index, nat_lt, nat_le, if◌then◌else◌}
use Rattle.cg_model.specs.Limits.{most_distance}
use Rattle.cg_model.specs.declared.kernel.Operand.{Operand}
use Rattle.cg_model.specs.declared.kernel.Operand.TheVariants.{Const as Constant, Edge}

-- the row d turns before a row
abbrev pub row_before : ℕ → ℕ → ℕ
row_before row d = if nat_le d row then row - d else row + 5 - d

-- an operand in turn i, from the rows: where its edge goes back over no more turns than there were, from the row of
-- that turn
abbrev pub operand_in : List ℕ → ℕ → ℕ → ℕ → Operand → ℕ
operand_in window row size i (Constant w) = w
operand_in window row size i (Edge u d init) = if nat_lt i d then slice_index init i else slice_index window (row_before row d * size + u)

-- an operand that can be read from the rows
abbrev pub IsNear : ℕ → Operand → Type 0
IsNear size (Constant w) = Unit {0}
IsNear size (Edge u d init) = (u < size) × (d ≤ most_distance)

-- before node v of turn i the window has the values of the last turns
pub record IsWindow (size i v : ℕ) (window values : List ℕ) : Type 0 where
  pub length_is : length window ≡ 5 * size
  pub holds : (u j : ℕ) → u < size → j ≤ i → i ≤ j + 4 → (j < i) ⊎ (u < v) → slice_index window (j % 5 * size + u) ≡ slice_index values (j * size + u)
