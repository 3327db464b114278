-- A kernel's edges by number, with the registers that their values cross added to their latencies.
use Rattle.std.specs.Prelude.{◌≡◌, ℕ, List, slice_get}
use Rattle.cg_recur.specs.declared.edge.Edge.{Edge}
use Rattle.cg_recur.specs.declared.edge.EdgeId.{EdgeId}
use Rattle.cg_recur.specs.Recurrences.{name_at}
use Rattle.cg_bound_recurrence.specs.WayCycles.{registers_of, longer}

-- one edge for each edge, longer by the registers of its name
abbrev pub AreLonger : (ℕ → ℕ → ℕ) → List EdgeId → List Edge → List Edge → Type 0
AreLonger hops names edges long = (k : ℕ) → slice_get long k ≡ longer (registers_of hops (name_at names k)) (slice_get edges k)
