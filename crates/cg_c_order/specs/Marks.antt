-- Tables of marks, with a row for each node.
use Rattle.std.specs.Prelude.{◌≡◌, ℕ, ◌<◌, Bool, true, false, not, ◌&&◌, ◌||◌, eqb, List, [], length, slice_index_or}

-- mark y is set
abbrev pub has : List Bool → ℕ → Bool
has marks y = slice_index_or marks y false

-- row x
abbrev pub row : List (List Bool) → ℕ → List Bool
row rows x = slice_index_or rows x []

-- mark y of row x is set
abbrev pub entry : List (List Bool) → ℕ → ℕ → Bool
entry rows x y = has (row rows x) y

-- n rows of n marks
pub record IsSquare (n : ℕ) (rows : List (List Bool)) : Type 0 where
  pub long : length rows ≡ n
  pub wide : (x : ℕ) → x < n → length (row rows x) ≡ n

-- the marks that are set are those of old and, if `takes`, those of others
pub record IsJoined (takes : Bool) (others old new : List Bool) : Type 0 where
  pub long : length new ≡ length old
  pub cells : (y : ℕ) → has new y ≡ (has old y || (takes && has others y))

-- a source takes the targets of `to` if `to` is none of its own
abbrev pub takes : Bool → ℕ → List Bool → Bool
takes is_source to old = is_source && not (has old to)

-- each of the sources that didn't lead to `to` yet leads to the targets
pub record AreJoined (sources : List Bool) (to : ℕ) (targets : List Bool) (old new : List (List Bool)) : Type 0 where
  pub long : length new ≡ length old
  pub rows : (x : ℕ) → x < length old → IsJoined (takes (has sources x) to (row old x)) targets (row old x) (row new x)

-- the nodes that lead to u, and u
pub record AreBefore (rows : List (List Bool)) (u : ℕ) (marks : List Bool) : Type 0 where
  pub long : length marks ≡ length rows
  pub cells : (x : ℕ) → x < length rows → has marks x ≡ (eqb x u || entry rows x u)

-- the nodes that u leads to, and u
pub record AreAfter (rows : List (List Bool)) (u : ℕ) (marks : List Bool) : Type 0 where
  pub long : length marks ≡ length (row rows u)
  pub cells : (y : ℕ) → y < length (row rows u) → has marks y ≡ (eqb y u || entry rows u y)

-- the marks of n rows are those of the pairs in R
pub record IsTable (n : ℕ) (R : ℕ → ℕ → Type 0) (rows : List (List Bool)) : Type 0 where
  pub square : IsSquare n rows
  pub sound : (x y : ℕ) → x < n → y < n → entry rows x y ≡ true → R x y
  pub complete : (x y : ℕ) → x < n → y < n → R x y → entry rows x y ≡ true
