-- Closed chains of edges that are too long for an interval (the recurrence constraint of modulo scheduling, Rau 1994)
-- when the least number of registers that the value of each data edge crosses is added to its latency.
use Rattle.std.specs.Prelude.{ℕ, ◌+◌, List, Option, Some, None}
use Rattle.std.specs.declared.vec.Vec.{Vec}
use Rattle.std.specs.declared.alloc.Global.{Global}
use Rattle.cg_model.specs.Kernel.{Kernel}
use Rattle.cg_model.specs.Array.{Arch}
use Rattle.cg_recur.specs.declared.edge.Edge.{Edge}
use Rattle.cg_recur.specs.declared.edge.EdgeId.{EdgeId}
use Rattle.cg_recur.specs.declared.edge.EdgeId.TheVariants.{Arg, Order}
use Rattle.cg_recur.specs.Edges.{edge_of}
use Rattle.cg_recur.specs.Chain.{IsCycle, IsShown}

-- the least number of registers that the value of an edge crosses: `hops v p` for operand p of node v, none for an order
-- edge
abbrev pub registers_of : (ℕ → ℕ → ℕ) → EdgeId → ℕ
registers_of hops (Arg v p) = hops v p
registers_of hops (Order k) = 0

-- an edge, if there is one, with n cycles added to its latency
abbrev pub longer : ℕ → Option Edge → Option Edge
longer n (Some e) = Some (record { source = e.source; target = e.target; latency = e.latency + n; distance = e.distance })
longer n None = None

-- the edge of a name, with those registers added to its latency
abbrev pub edge_with : Arch → Kernel → (ℕ → ℕ → ℕ) → EdgeId → Option Edge
edge_with A K hops x = longer (registers_of hops x) (edge_of A K x)

-- a non-empty closed chain of these edges whose latencies exceed ii times its distances
abbrev pub IsWayCycle : Arch → Kernel → (ℕ → ℕ → ℕ) → ℕ → List EdgeId → Type 0
IsWayCycle A K hops ii ids = IsCycle (edge_with A K hops) ii ids

-- no closed chain of these edges is too long for an interval of ii cycles
abbrev pub HasNoWayCycle : Arch → Kernel → (ℕ → ℕ → ℕ) → ℕ → Type 0
HasNoWayCycle A K hops ii = (ids : List EdgeId) → IsWayCycle A K hops ii ids → ⊥

-- a closed chain of this form that repeats no node and begins at its least one, or none if there is none at all
abbrev pub IsWayAnswer : Arch → Kernel → (ℕ → ℕ → ℕ) → ℕ → Option (Vec EdgeId Global) → Type 0
IsWayAnswer A K hops ii (Some ids) = IsWayCycle A K hops ii ids.items × IsShown (edge_with A K hops) ids.items
IsWayAnswer A K hops ii None = HasNoWayCycle A K hops ii
