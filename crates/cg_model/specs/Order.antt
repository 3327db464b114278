-- Which steps the edges of a kernel order, and the runs in which all accesses that matter are
-- ordered.
use Rattle.std.specs.Prelude.{◌≡◌, ℕ, ◌+◌, ◌*◌, ◌/◌, ◌%◌, ◌<◌, ◌≤◌, ◌⊎◌, true, false, List, length}
use Rattle.cg_word.specs.Word.{is_access, is_store}
use Rattle.cg_model.specs.Work.{Image, Reaches}
use Rattle.cg_model.specs.Kernel.{Kernel, Edge, HasOperand, HasOrder, size, node}
use Rattle.cg_model.specs.Turns.{work}

-- an edge from u to v of distance d, of data or of order
pub data Links (K : Kernel) : ℕ → ℕ → ℕ → Type 0 where
  by_data : {u v d : ℕ} (p : ℕ) (init : List ℕ) → v < size K →
      HasOperand K v p (Edge u d init) → Links K u v d
  by_order : {u v d : ℕ} (e : ℕ) → HasOrder K e u v d → Links K u v d

-- a non-empty chain of edges, with its total distance
pub data Chain (K : Kernel) : ℕ → ℕ → ℕ → Type 0 where
  one : {u v d : ℕ} → Links K u v d → Chain K u v d
  more : {u v w d e : ℕ} → Links K u v d → Chain K v w e → Chain K u w (d + e)

-- node u in turn i is ordered before node v in turn j: it is the same node in an earlier turn, or a
-- non-empty chain of edges leads from u to v over at most j - i turns
abbrev pub IsOrdered : Kernel → ℕ → ℕ → ℕ → ℕ → Type 0
IsOrdered K u i v j = ((u ≡ v) × (i < j)) ⊎ ((d : ℕ) × Chain K u v d × (i + d ≤ j))

-- wherever two steps of the n turns access one word of the memory and one of the two is a store,
-- the earlier step is ordered before the later; the addresses are those of the turns
abbrev pub IsUnaliased : Kernel → ℕ → Image → Type 0
IsUnaliased K n image =
    (a k l : ℕ) → a < length image.memory → k < l → l < n * size K →
    Reaches (work K image k) a → Reaches (work K image l) a →
    (is_store (work K image k).op ≡ true) ⊎ (is_store (work K image l).op ≡ true) →
    IsOrdered K (k % size K) (k / size K) (l % size K) (l / size K)

-- no node is a load, store, loadif or storeif
abbrev pub HasNoAccess : Kernel → Type 0
HasNoAccess K = (v : ℕ) → v < size K → is_access (node K v).op ≡ false
