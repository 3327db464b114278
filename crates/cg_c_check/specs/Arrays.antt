-- Arrays and tables. They lie one after another from address 0 on, a word for each element.
use Rattle.std.specs.Prelude.{ℕ, suc, ◌+◌, ◌*◌, nat_lt, nat_le, ◌==◌, Bool, false, ◌&&◌, List, [], ◌∷◌, ◌++◌, Ok}
use Rattle.cg_c_syntax.specs.Tree.{Exprs, NoExprs, MoreExprs, Rows, Items, Inner, RowsList, NoRows, OneMore}
use Rattle.cg_c_check.specs.declared.fault.CheckFault.TheVariants.{BadArray}
use Rattle.cg_c_check.specs.Faults.{Checked, ◌>>=◌, ◌>>◌, demand}
use Rattle.cg_c_check.specs.Names.{Names}
use Rattle.cg_c_check.specs.Constants.{constant_of, place_of, count}

-- the greatest number of words of all arrays
abbrev pub most_memory : ℕ
most_memory = 1048576

-- the product of the dimensions
abbrev pub size_of : List ℕ → ℕ
size_of [] = 1
size_of (d ∷ ds) = d * size_of ds

-- the address behind an array at the address start
abbrev pub end_of : (start : ℕ) → (dimensions : List ℕ) → ℕ
end_of start [] = start
end_of start (d ∷ ds) = start + size_of (d ∷ ds)

-- F10: a dimension is not 0; with it an array at the address start, of `size` words by the dimensions before, ends in memory
abbrev pub has_room : (start size dimension : ℕ) → Bool
has_room start size dimension = nat_lt 0 dimension && nat_le (start + size * dimension) most_memory

-- the dimensions of an array at the address start, of `size` words by those before
unfoldable pub dimensions_of : Names → (start size : ℕ) → Exprs → Checked (List ℕ)
dimensions_of names start size NoExprs = Ok []
dimensions_of names start size (MoreExprs e es) = do
  dimension ← constant_of names e
  demand (has_room start size dimension.word) (BadArray (place_of e))
  further ← dimensions_of names start (size * dimension.word) es
  Ok (dimension.word ∷ further)

-- the words of the values
unfoldable pub values_of : Names → Exprs → Checked (List ℕ)
values_of names NoExprs = Ok []
values_of names (MoreExprs e es) = do
  value ← constant_of names e
  further ← values_of names es
  Ok (value.word ∷ further)

abbrev pub rows_count : RowsList → ℕ
rows_count NoRows = 0
rows_count (OneMore r rs) = suc (rows_count rs)

-- the first dimension is n
abbrev pub is_first : ℕ → List ℕ → Bool
is_first n [] = false
is_first n (d ∷ ds) = d == n

abbrev pub behind_first : List ℕ → List ℕ
behind_first [] = []
behind_first (d ∷ ds) = ds

-- F10: the words of rows that are as long as these dimensions
unfoldable mutual
  pub table_of : Names → List ℕ → Rows → Checked (List ℕ)
  table_of names dimensions (Items place es) = do
    demand (is_first (count es) dimensions) (BadArray place)
    values_of names es
  table_of names dimensions (Inner place rs) = do
    demand (is_first (rows_count rs) dimensions) (BadArray place)
    tables_of names (behind_first dimensions) rs

  pub tables_of : Names → List ℕ → RowsList → Checked (List ℕ)
  tables_of names dimensions NoRows = Ok []
  tables_of names dimensions (OneMore r rs) = do
    words ← table_of names dimensions r
    further ← tables_of names dimensions rs
    Ok (words ++ further)
