-- The results of the last cycles, in a ring of rows.
use Rattle.std.specs.Prelude.{◌≡◌, ℕ, ◌+◌, ◌-◌, ◌*◌, ◌%◌, ◌<◌, ◌≤◌, List, length, slice_index, ⊤}
use Rattle.cg_model.specs.Limits.{most_units}
use Rattle.cg_origins.specs.declared.source.Source.{Source}
use Rattle.cg_origins.specs.declared.source.Source.TheVariants as source

-- the results of a number of units in a number of cycles, row by row, and the row of the current cycle
pub record Results : Type 0 where
  pub words : List ℕ
  pub units : ℕ
  pub rows : ℕ
  pub row : ℕ

-- each row has a word for each unit
pub record IsRing (h : Results) : Type 0 where
  pub long : length h.words ≡ h.rows * h.units
  pub within : h.row < h.rows
  pub few_units : h.units ≤ most_units
  pub few_rows : h.rows ≤ 256

-- the result of unit x in the current cycle
abbrev pub result_now : Results → ℕ → ℕ
result_now h x = slice_index h.words (h.row * h.units + x)

-- the result that unit x began d cycles ago, for d from 1 to the number of rows
abbrev pub result_ago : Results → ℕ → ℕ → ℕ
result_ago h x d = slice_index h.words ((h.row + h.rows - d) % h.rows * h.units + x)

-- before the first cycle all results are 0
pub record IsFirst (units rows : ℕ) (h : Results) : Type 0 where
  pub units_are : h.units ≡ units
  pub rows_are : h.rows ≡ rows
  pub none : (x d : ℕ) → result_ago h x d ≡ 0

-- the word of a source among these results
abbrev pub word_of : Results → Source → ℕ
word_of h (source.Word w) = w
word_of h (source.Result x d) = result_ago h x d

-- the results have a row for the source
abbrev pub IsKnown : Results → Source → Type 0
IsKnown h (source.Word w) = ⊤
IsKnown h (source.Result x d) = (x < h.units) × (0 < d) × (d < h.rows)

-- the ring is the same, and so are the rows of the earlier cycles
pub record KeepsRows (old new : Results) : Type 0 where
  pub units : new.units ≡ old.units
  pub rows : new.rows ≡ old.rows
  pub row : new.row ≡ old.row
  pub earlier : (x d : ℕ) → x < old.units → 0 < d → d < old.rows → result_ago new x d ≡ result_ago old x d
