-- Mappings, and when one is legal: a modulo schedule (Rau 1994) with a route for each data edge (Mei 2002). Legality
-- depends on times and routes alone; there is no reservation table
use Rattle.std.specs.Prelude.{◌≡◌, ℕ, suc, ◌+◌, ◌*◌, ◌%◌, ◌<◌, ◌≤◌, Bool, true, false, eqb, List, [], ◌∷◌, ◌++◌, length, map, Contains, Option, Some, None, slice_get, slice_index_or, flat_map}
use Rattle.cg_model.specs.Kernel.{Kernel, Node, Operand, Constant, Edge, HasOperand, HasOrder, size, node}
pub use Rattle.cg_model.specs.declared.mapping.Place.{Place}
pub use Rattle.cg_model.specs.declared.mapping.Route.{Route}
use Rattle.cg_model.specs.Array.{Arch, resource, unit, delay}
use Rattle.cg_model.specs.Limits.{latest_time}

-- an interval, a place for each node (its unit and its time in the first turn), and a route for
-- each edge operand: in turn i the node at time t begins in cycle t + i * ii
pub record Mapping : Type 0 where
  pub ii : ℕ
  pub places : List Place
  pub routes : List Route

-- the place of node v
abbrev pub place : Mapping → ℕ → Place
place M v = slice_index_or M.places v (record { unit = 0; time = 0 })

-- a position of a route: the value of node `source` in the first turn is on the resource at `time`, and comes from
-- `from`, the previous resource on the path, or from its unit at the path's start
pub record Position : Type 0 where
  pub source : ℕ
  pub resource : ℕ
  pub time : ℕ
  pub from : Option ℕ

-- the positions of a path that continues from q, where the value of u is at time t: each link adds its delay
abbrev pub positions_after : Arch → ℕ → ℕ → ℕ → List ℕ → List Position
positions_after A u q t [] = []
positions_after A u q t (r ∷ path) =
    record { source = u; resource = r; time = t + delay A r; from = Some q }
    ∷ positions_after A u r (t + delay A r) path

-- the positions of a path that the value of u enters at time t
abbrev pub positions_on : Arch → ℕ → ℕ → List ℕ → List Position
positions_on A u t [] = []
positions_on A u t (r ∷ path) =
    record { source = u; resource = r; time = t; from = None } ∷ positions_after A u r t path

-- when the value of a node leaves its unit, counted from the start of its turn
abbrev pub leaves : Arch → Mapping → ℕ → ℕ
leaves A M u = (place M u).time + (unit A (place M u).unit).latency

-- the positions of a path for that operand; none where it is not an edge
abbrev pub of_operand : Arch → Mapping → List ℕ → Option Operand → List Position
of_operand A M path (Some (Edge u d init)) = positions_on A u (leaves A M u) path
of_operand A M path _ = []

-- the positions of a route
abbrev pub of_route : Arch → Kernel → Mapping → Route → List Position
of_route A K M route = of_operand A M route.path (slice_get (node K route.node).operands route.arg)

-- the positions of all routes
unfoldable pub positions : Arch → Kernel → Mapping → List Position
positions A K M = flat_map (of_route A K M) M.routes

-- from q at time t the path continues along links, and ends on r at time s
abbrev pub Goes : Arch → ℕ → ℕ → List ℕ → ℕ → ℕ → Type 0
Goes A q t [] r s = (q ≡ r) × (t ≡ s)
Goes A q t (x ∷ path) r s = Contains (resource A x).drivers q × Goes A x (t + delay A x) path r s

-- the path begins with the out of u's unit when u's value leaves it, continues along links, and ends on that port at
-- that time
abbrev pub Brings : Arch → Mapping → ℕ → List ℕ → ℕ → ℕ → Type 0
Brings A M u path port time =
    (rest : List ℕ) × (path ≡ (unit A (place M u).unit).out ∷ rest) ×
    Goes A (unit A (place M u).unit).out (leaves A M u) rest port time

-- where an edge ends: at an operand of a node
pub record End : Type 0 where
  pub node : ℕ
  pub arg : ℕ

-- where a route ends
abbrev pub end_of : Route → End
end_of route = record { node = route.node; arg = route.arg }

-- the edge operands of node v, from operand number p on
abbrev pub ends_of : ℕ → ℕ → List Operand → List End
ends_of v p [] = []
ends_of v p (Constant w ∷ os) = ends_of v (suc p) os
ends_of v p (Edge u d init ∷ os) = record { node = v; arg = p } ∷ ends_of v (suc p) os

-- the edge operands of all nodes, from node number v on
abbrev pub ends_from : ℕ → List Node → List End
ends_from v [] = []
ends_from v (n ∷ ns) = ends_of v 0 n.operands ++ ends_from (suc v) ns

-- one place for each node, and one route for each edge operand, both in the order of nodes and operands
pub record IsShaped (K : Kernel) (M : Mapping) : Type 0 where
  pub places : length M.places ≡ size K
  pub routes : map end_of M.routes ≡ ends_from 0 K.nodes

-- a legal mapping of a kernel on an architecture: it has the kernel's shape, so that each data edge has its route, and
-- satisfies the rules L1 to L7
pub record IsLegal (A : Arch) (K : Kernel) (M : Mapping) : Type 0 where
  pub shape : IsShaped K M
  -- L1: the interval is at least 1 and at most the number of contexts
  pub interval : 0 < M.ii
  pub contexts : M.ii ≤ A.contexts
  -- L2: every node is placed on a unit that offers its operation, at a time up to 65,534
  pub units : (v : ℕ) → v < size K → (place M v).unit < length A.units
  pub offered : (v : ℕ) → v < size K → Contains (unit A (place M v).unit).ops (node K v).op
  pub soon : (v : ℕ) → v < size K → (place M v).time ≤ latest_time
  -- L3: a unit begins at most one node in each slot
  pub apart : (v w : ℕ) → v < size K → w < size K → (place M v).unit ≡ (place M w).unit →
      (place M v).time % M.ii ≡ (place M w).time % M.ii → v ≡ w
  -- L4: an order edge's target begins at least a cycle after its source, d turns later
  pub ordered : (e u v d : ℕ) → HasOrder K e u v d →
      (place M u).time + 1 ≤ (place M v).time + M.ii * d
  -- L5: each route brings its value to the port of that argument exactly when the node that takes it begins, d turns
  -- later
  pub brings : (route : Route) (u d : ℕ) (init : List ℕ) →
      Contains M.routes route → HasOperand K route.node route.arg (Edge u d init) →
      (port : ℕ) × (slice_get (unit A (place M route.node).unit).ports route.arg ≡ Some port) ×
      Brings A M u route.path port ((place M route.node).time + M.ii * d)
  -- L6: route positions that meet on a resource in a slot are of one source, at one time
  pub alone : (p q : Position) → Contains (positions A K M) p → Contains (positions A K M) q →
      p.resource ≡ q.resource → p.time % M.ii ≡ q.time % M.ii →
      (p.source ≡ q.source) × (p.time ≡ q.time)
  -- L7: and they come from one predecessor, or both begin their paths there
  pub one_way : (p q : Position) → Contains (positions A K M) p → Contains (positions A K M) q →
      p.resource ≡ q.resource → p.time % M.ii ≡ q.time % M.ii → p.from ≡ q.from

-- by the mapping, resource r carries the value of node v in turn i in cycle c
abbrev pub Carries : Arch → Kernel → Mapping → ℕ → ℕ → ℕ → ℕ → Type 0
Carries A K M r c v i =
    (p : Position) × Contains (positions A K M) p ×
    (p.source ≡ v) × (p.resource ≡ r) × (c ≡ p.time + i * M.ii)

-- by the mapping, unit x begins node v of turn i in cycle c
abbrev pub Begins : Kernel → Mapping → ℕ → ℕ → ℕ → ℕ → Type 0
Begins K M x c v i = (v < size K) × ((place M v).unit ≡ x) × (c ≡ (place M v).time + i * M.ii)

-- two positions are entered from one resource, or both begin their paths
abbrev pub same_from : Option ℕ → Option ℕ → Bool
same_from None None = true
same_from (Some a) (Some b) = eqb a b
same_from None (Some b) = false
same_from (Some a) None = false
