-- States of the walk that looks for a mapping: a place for each node, a route or none for each edge operand, and a
-- history for each node of the modulo routing resource graph. What a state costs, and the mapping that it represents.
use Rattle.std.specs.Prelude.{ℕ, suc, ◌+◌, ◌*◌, Bool, true, false, List, [], ◌∷◌, ◌++◌, Option, Some, None, count_by}
use Rattle.cg_model.specs.declared.kernel.Node.{Node}
use Rattle.cg_model.specs.declared.kernel.Operand.{Operand}
use Rattle.cg_model.specs.declared.kernel.Operand.TheVariants.{Const as Constant, Edge}
use Rattle.cg_model.specs.declared.mapping.Place.{Place}
use Rattle.cg_model.specs.declared.mapping.Route.{Route}
use Rattle.cg_model.specs.Kernel.{Kernel}
use Rattle.cg_model.specs.Array.{Arch, unit, port}
use Rattle.cg_model.specs.Mapping.{Mapping, Position, positions_on}
use Rattle.cg_congestion.specs.Table.{Table, excess}
use Rattle.cg_route.specs.Least.{Ends}
use Rattle.cg_place.specs.Placed.{place_in}
use Rattle.cg_place.specs.Counts.{order_violations, unit_excess}
pub use Rattle.cg_walk_spec.specs.declared.edge.EdgeOperand.{EdgeOperand}

-- ---- edge operands

-- the operands of node v from number p on that are edges
abbrev pub edges_among : ℕ → ℕ → List Operand → List EdgeOperand
edges_among v p [] = []
edges_among v p (Constant w ∷ os) = edges_among v (suc p) os
edges_among v p (Edge u d init ∷ os) =
    record { node = v; arg = p; source = u; distance = d } ∷ edges_among v (suc p) os

-- those of all nodes, from number v on
abbrev pub edges_from : ℕ → List Node → List EdgeOperand
edges_from v [] = []
edges_from v (n ∷ ns) = edges_among v 0 n.operands ++ edges_from (suc v) ns

-- the edge operands of a kernel, in the order of (node, argument)
unfoldable pub edges : Kernel → List EdgeOperand
edges K = edges_from 0 K.nodes

-- ---- states

-- the places of the nodes; for each edge operand its route, or none; and the histories, by resource,
-- then slot
pub record State : Type 0 where
  pub places : List Place
  pub routes : List (Option (List ℕ))
  pub history : List ℕ

-- where and when the route of an edge operand begins and ends: at the out of the source's unit when the value leaves
-- it, and on the port of that argument when the consumer begins, later by the edge's distance in iterations
abbrev pub ends_of : Arch → ℕ → List Place → EdgeOperand → Ends
ends_of A ii places e =
    let from = place_in places e.source in
    let to = place_in places e.node in
    record {
      from = (unit A from.unit).out;
      start = from.time + (unit A from.unit).latency;
      to = port A to.unit e.arg;
      end = to.time + ii * e.distance;
    }

-- the positions of an edge operand's route
abbrev pub positions_by : Arch → ℕ → List Place → EdgeOperand → Option (List ℕ) → List Position
positions_by A ii places e None = []
positions_by A ii places e (Some path) = positions_on A e.source (ends_of A ii places e).start path

-- the positions of all their routes
abbrev pub positions_of_all : Arch → ℕ → List Place → List EdgeOperand → List (Option (List ℕ)) → List Position
positions_of_all A ii places [] routes = []
positions_of_all A ii places (e ∷ es) [] = []
positions_of_all A ii places (e ∷ es) (r ∷ rs) =
    positions_by A ii places e r ++ positions_of_all A ii places es rs

unfoldable pub state_positions : Arch → Kernel → ℕ → State → List Position
state_positions A K ii S = positions_of_all A ii S.places (edges K) S.routes

-- the use of the architecture by a state
abbrev pub table_of_state : Arch → Kernel → ℕ → State → Table
table_of_state A K ii S =
    record { arch = A; interval = ii; positions = state_positions A K ii S; history = S.history }

-- ---- costs

abbrev pub is_missing : Option (List ℕ) → Bool
is_missing None = true
is_missing (Some path) = false

-- the number of edge operands without a route
abbrev pub missing : State → ℕ
missing S = count_by is_missing S.routes

-- the cost of each edge operand without a route, each broken order edge and each node beyond one in a slot of a unit; a
-- claim beyond one costs 1
abbrev pub weight : ℕ
weight = 1000

-- the cost of a state: `weight` for each edge operand without a route, for each order edge that the times break and for
-- each node beyond one in a slot of a unit; and 1 for each claim beyond one at a node of the modulo routing resource
-- graph
unfoldable pub cost : Arch → Kernel → ℕ → State → ℕ
cost A K ii S =
    weight * (missing S + order_violations K ii S.places + unit_excess A ii S.places)
    + excess (table_of_state A K ii S)

-- ---- mappings

-- the routes of the edge operands that have one
abbrev pub routes_by : List EdgeOperand → List (Option (List ℕ)) → List Route
routes_by [] routes = []
routes_by (e ∷ es) [] = []
routes_by (e ∷ es) (None ∷ rs) = routes_by es rs
routes_by (e ∷ es) (Some path ∷ rs) = record { node = e.node; arg = e.arg; path = path } ∷ routes_by es rs

-- the mapping that a state represents
unfoldable pub mapping_of : Kernel → ℕ → State → Mapping
mapping_of K ii S = record { ii = ii; places = S.places; routes = routes_by (edges K) S.routes }
