-- The table of least distances.
use Rattle.std.specs.Prelude.{ℕ, ◌≡◌, ◌<◌, List, [], length, Option, Some, None, slice_index_or}
use Rattle.cg_model.specs.Kernel.{Kernel, size}
use Rattle.cg_distance.specs.Least.{IsLeast, HasNoChain}
use Rattle.cg_distance.specs.Found.{total_of}

-- x is the least total distance of the chains from u to v, None where there is no chain
abbrev pub IsBest : Kernel → ℕ → ℕ → Option ℕ → Type 0
IsBest K u v None = HasNoChain K u v
IsBest K u v (Some d) = IsLeast K u v d

-- a row has the least total distances from u to each node
pub record IsRow (K : Kernel) (u : ℕ) (row : List (Option ℕ)) : Type 0 where
  pub long : length row ≡ size K
  pub best : (v : ℕ) → v < size K → IsBest K u v (total_of row v)

-- row u of a table
abbrev pub row_of : List (List (Option ℕ)) → ℕ → List (Option ℕ)
row_of rows u = slice_index_or rows u []

-- a table has a row for each node
pub record IsTable (K : Kernel) (rows : List (List (Option ℕ))) : Type 0 where
  pub long : length rows ≡ size K
  pub each : (u : ℕ) → u < size K → IsRow K u (row_of rows u)
