-- The hub: registers that every unit's out and every register of the hub drive, and that drive every port. And the
-- mapping that uses no other resources: its nodes begin one after another, and each value waits in registers of its
-- own.
use Rattle.std.specs.Prelude.{◌≡◌, ℕ, zero, suc, ◌+◌, ◌-◌, ◌*◌, ◌/◌, ◌<◌, ◌≤◌, eqb, nat_lt, max, if◌then◌else◌, Bool, List, [], ◌∷◌, ◌++◌, length, map, flat_map, Option, Some, None, slice_index}
use Rattle.std.specs.List.{range_with_len, list_all}
use Rattle.cg_model.specs.declared.kernel.Node.{Node}
use Rattle.cg_model.specs.declared.kernel.Operand.{Operand}
use Rattle.cg_model.specs.declared.kernel.Operand.TheVariants.{Const as Constant, Edge}
use Rattle.cg_model.specs.Kernel.{Kernel, size, node}
use Rattle.cg_model.specs.Array.{Arch, unit, port, hub_register}
use Rattle.cg_model.specs.declared.mapping.Place.{Place}
use Rattle.cg_model.specs.declared.mapping.Route.{Route}
use Rattle.cg_model.specs.Mapping.{Mapping}
use Rattle.cg_place.specs.Placed.{offering}

-- ---- registers

-- the number of registers that an operand needs for the value of node u: one more than its distance where it takes that
-- value
abbrev pub needs : ℕ → Operand → ℕ
needs u (Constant w) = 0
needs u (Edge s d init) = if eqb s u then suc d else 0

-- the most that one of these operands needs
abbrev pub most_of : ℕ → List Operand → ℕ
most_of u [] = 0
most_of u (o ∷ os) = max (needs u o) (most_of u os)

-- the most that an operand of one of these nodes needs
abbrev pub most : ℕ → List Node → ℕ
most u [] = 0
most u (n ∷ ns) = max (most_of u n.operands) (most u ns)

-- the registers of node u: one more than the greatest distance of the operands that take its value, none where no
-- operand does
abbrev pub registers : Kernel → ℕ → ℕ
registers K u = most u K.nodes

-- the number of registers of the first u nodes, and so the place in the hub of the first register of node u
abbrev pub registers_before : Kernel → ℕ → ℕ
registers_before K zero = 0
registers_before K (suc u) = registers_before K u + registers K u

-- the number of registers of all nodes
abbrev pub need : Kernel → ℕ
need K = registers_before K (size K)

-- ---- times

-- the lowest-numbered unit that offers the operation of node v; 0 where none does
unfoldable pub host : Arch → Kernel → ℕ → ℕ
host A K v = slice_index (offering A (node K v).op) 0

-- when node v begins: each of the nodes before it has taken one cycle more than the latency of its unit
abbrev pub start : Arch → Kernel → ℕ → ℕ
start A K zero = 0
start A K (suc v) = start A K v + ((unit A (host A K v)).latency + 1)

-- some unit offers the operation of a node
abbrev pub is_served : Arch → Node → Bool
is_served A n = nat_lt 0 (length (offering A n.op))

-- the cycles that all nodes take, one after another; none where some operation is offered by no unit
unfoldable pub serial : Arch → Kernel → Option ℕ
serial A K = if list_all (is_served A) K.nodes then Some (start A K (size K)) else None

-- the hub suffices at an interval of ii cycles: it has enough registers, and all nodes one after another take no longer
-- than ii
pub record HubEnough (A : Arch) (K : Kernel) (ii : ℕ) : Type 0 where
  pub some : 0 < length A.hub
  pub enough : need K ≤ length A.hub
  pub total : ℕ
  pub total_is : serial A K ≡ Some total
  pub short : total ≤ ii
  pub interval : 0 < ii
  pub contexts : ii ≤ A.contexts

-- ---- routes

-- when the value of node u leaves its unit
abbrev pub hub_leaves : Arch → Kernel → ℕ → ℕ
hub_leaves A K u = start A K u + (unit A (host A K u)).latency

-- the register that has the value of node u k + 1 cycles after it left its unit: the value stays in each for ii cycles
abbrev pub hub_at : Arch → Kernel → ℕ → ℕ → ℕ → ℕ
hub_at A K ii u k = hub_register A (registers_before K u + k / ii)

-- the way of the value of node u to port p of node v, d iterations later: from the out, in the registers of node u for
-- all the cycles between, to the port
abbrev pub hub_path : Arch → Kernel → ℕ → ℕ → ℕ → ℕ → ℕ → List ℕ
hub_path A K ii v p u d =
    (unit A (host A K u)).out
    ∷ map (hub_at A K ii u) (range_with_len 0 (start A K v + ii * d - hub_leaves A K u)) ++ port A (host A K v) p ∷ []

-- the route to operand p of node v, where that is an edge
abbrev pub hub_route : Arch → Kernel → ℕ → ℕ → ℕ → Operand → List Route
hub_route A K ii v p (Constant w) = []
hub_route A K ii v p (Edge u d init) = record { node = v; arg = p; path = hub_path A K ii v p u d } ∷ []

-- the routes to these operands of node v, the first of them number p
abbrev pub hub_routes_to : Arch → Kernel → ℕ → ℕ → ℕ → List Operand → List Route
hub_routes_to A K ii v p [] = []
hub_routes_to A K ii v p (o ∷ os) = hub_route A K ii v p o ++ hub_routes_to A K ii v (suc p) os

-- the routes to node v
abbrev pub hub_routes : Arch → Kernel → ℕ → ℕ → List Route
hub_routes A K ii v = hub_routes_to A K ii v 0 (node K v).operands

-- ---- the mapping

-- each node begins on its unit when the nodes before it have finished
abbrev pub hub_place : Arch → Kernel → ℕ → Place
hub_place A K v = record { unit = host A K v; time = start A K v }

-- the mapping over the hub at an interval of ii cycles
unfoldable pub hub_map : Arch → Kernel → ℕ → Mapping
hub_map A K ii =
    record {
      ii = ii;
      places = map (hub_place A K) (range_with_len 0 (size K));
      routes = flat_map (hub_routes A K ii) (range_with_len 0 (size K));
    }
