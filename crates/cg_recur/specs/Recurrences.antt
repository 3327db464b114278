-- The answer of the recurrences of a kernel on an architecture for an interval.
use Rattle.std.specs.Prelude.{◌≡◌, ℕ, ◌<◌, List, length, slice_index, slice_index_or}
use Rattle.cg_model.specs.Kernel.{Kernel, size}
use Rattle.cg_model.specs.Array.{Arch}
use Rattle.cg_recur.specs.declared.edge.EdgeId.{EdgeId}
use Rattle.cg_recur.specs.declared.edge.EdgeId.TheVariants.{Order}
use Rattle.cg_recur.specs.Edges.{edge_of}
use Rattle.cg_recur.specs.Chain.{IsCycle, IsShown, IsEarly}
use Rattle.cg_recur.specs.declared.recur.Recur.{Recur}
use Rattle.cg_recur.specs.declared.recur.Recur.TheVariants.{Cycle, Times}

-- a closed chain of the kernel's edges that no interval of ii cycles can satisfy
abbrev pub IsRecurrence : Arch → Kernel → ℕ → List EdgeId → Type 0
IsRecurrence A K ii ids = IsCycle (edge_of A K) ii ids

-- no closed chain of edges is too long for an interval of ii cycles
abbrev pub HasNoRecurrence : Arch → Kernel → ℕ → Type 0
HasNoRecurrence A K ii = (ids : List EdgeId) → IsRecurrence A K ii ids → ⊥

-- the earliest times of a kernel's nodes
pub record AreEarliest (A : Arch) (K : Kernel) (ii : ℕ) (early : List ℕ) : Type 0 where
  pub each : length early ≡ size K
  pub right : (v : ℕ) → v < size K → IsEarly (edge_of A K) ii v (slice_index early v)

-- a recurrence in its shown form, or the earliest times of all nodes if there is none
abbrev pub IsAnswer : Arch → Kernel → ℕ → Recur → Type 0
IsAnswer A K ii (Cycle ids) = IsRecurrence A K ii ids.items × IsShown (edge_of A K) ids.items
IsAnswer A K ii (Times ts) =
    (length ts.items ≡ size K)
    × ((v : ℕ) → v < size K → IsEarly (edge_of A K) ii v (slice_index ts.items v))
    × ((ids : List EdgeId) → IsRecurrence A K ii ids → ⊥)

-- the name at an index of a list
abbrev pub name_at : List EdgeId → ℕ → EdgeId
name_at names k = slice_index_or names k (Order 0)
