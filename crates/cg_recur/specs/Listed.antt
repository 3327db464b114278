-- Lists of a kernel's edges with their names.
use Rattle.std.specs.Prelude.{◌≡◌, ℕ, ◌<◌, ◌⊎◌, List, [], ◌∷◌, ◌++◌, length, Option, Some, None, slice_get}
use Rattle.cg_model.specs.Kernel.{Kernel}
use Rattle.cg_model.specs.Array.{Arch}
use Rattle.cg_recur.specs.Edges.{Edge, EdgeId, Arg, Order, edge_of, AreRising}

-- the operands of the nodes before v, the first p of node v, and the first j order edges
abbrev pub IsBefore : ℕ → ℕ → ℕ → EdgeId → Type 0
IsBefore v p j (Arg w q) = (w < v) ⊎ ((w ≡ v) × (q < p))
IsBefore v p j (Order k) = k < j

-- the list has each of their edges, in order, and no other
pub record AreSoFar (A : Arch) (K : Kernel) (v p j : ℕ) (names : List EdgeId) (edges : List Edge) : Type 0 where
  pub each : length names ≡ length edges
  pub right : (k : ℕ) (x : EdgeId) (e : Edge) → slice_get names k ≡ Some x → slice_get edges k ≡ Some e → edge_of A K x ≡ Some e
  pub whole : (x : EdgeId) (e : Edge) → IsBefore v p j x → edge_of A K x ≡ Some e → (k : ℕ) × (slice_get names k ≡ Some x)
  pub within : (k : ℕ) (x : EdgeId) → slice_get names k ≡ Some x → IsBefore v p j x
  pub rising : AreRising names

-- the lists with the edge that x names, if there is one
abbrev pub IsAdded : Option Edge → EdgeId → List EdgeId → List Edge → List EdgeId → List Edge → Type 0
IsAdded None x names edges names' edges' = (names' ≡ names) × (edges' ≡ edges)
IsAdded (Some e) x names edges names' edges' = (names' ≡ names ++ x ∷ []) × (edges' ≡ edges ++ e ∷ [])
