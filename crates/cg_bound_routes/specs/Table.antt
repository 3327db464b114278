-- Numbers that are read from a table by node and operand.
use Rattle.std.specs.Prelude.{◌≡◌, ℕ, ◌+◌, ◌*◌, ◌<◌, ◌≤◌, ◌⊎◌, List, length, Option, Some, None, slice_index, unwrap_or}
use Rattle.cg_model.specs.declared.kernel.Operand.TheVariants.{Edge}
use Rattle.cg_model.specs.Kernel.{Kernel, HasOperand}
use Rattle.cg_bound_routes.specs.declared.missing.Missing.{Missing}
use Rattle.cg_bound_routes.specs.Ways.{hops_of}

-- a list has three numbers for each row of a table, those for operands 0, 1 and 2, with 0 if there is none
pub record AreThreeANode (rows : List (List (Option ℕ))) (list : List ℕ) : Type 0 where
  pub each : length list ≡ 3 * length rows
  pub right : (v p : ℕ) → p < 3 → slice_index list (3 * v + p) ≡ unwrap_or (hops_of rows v p) 0

-- operand number p of node v is an edge for which a table has no number
abbrev pub IsMissing : Kernel → List (List (Option ℕ)) → ℕ → ℕ → Type 0
IsMissing K rows v p = (u : ℕ) × (d : ℕ) × (init : List ℕ) × HasOperand K v p (Edge u d init) × (hops_of rows v p ≡ None)

-- the first missing operand, by node and then by number
pub record IsFirstMissing (K : Kernel) (rows : List (List (Option ℕ))) (first : Missing) : Type 0 where
  pub missing : IsMissing K rows first.node first.arg
  pub none_before : (v p : ℕ) → IsMissing K rows v p → (first.node < v) ⊎ ((first.node ≡ v) × (first.arg ≤ p))

-- a table has a number for each operand that is an edge
abbrev pub HasAllNumbers : Kernel → List (List (Option ℕ)) → Type 0
HasAllNumbers K rows = (v p u d : ℕ) (init : List ℕ) → HasOperand K v p (Edge u d init) → (n : ℕ) × (hops_of rows v p ≡ Some n)
