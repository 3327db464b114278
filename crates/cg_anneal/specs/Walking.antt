-- The current state of the walk, and the data that is kept of it.
use Rattle.std.specs.Prelude.{◌≡◌, ◌≢◌, ℕ, ◌<◌, ◌≤◌, true, List, Contains, length, Some, slice_get}
use Rattle.cg_model.specs.Kernel.{Kernel, IsKernel, size, node}
use Rattle.cg_model.specs.Array.{Arch, IsArch, unit}
use Rattle.cg_model.specs.Limits.{latest_time}
use Rattle.cg_mrrg.specs.Graph.{Graph}
use Rattle.cg_congestion.specs.Table.{Table}
use Rattle.cg_route.specs.Least.{Ends}
use Rattle.cg_place.specs.declared.moves.Move.{Move}
use Rattle.cg_place.specs.Placed.{Placed}
use Rattle.cg_walk_spec.specs.State.{State, edges, ends_of, state_positions, table_of_state, missing}
use Rattle.cg_walk_spec.specs.declared.edge.EdgeOperand.{EdgeOperand}
use Rattle.cg_walk_spec.specs.Walk.{edge, touches, IsRouted}
use Rattle.cg_walk_spec.specs.Good.{IsReady, IsGood}
use Rattle.cg_walk_spec.specs.Alike.{AreAlike}
use Rattle.cg_anneal.specs.declared.ends.RouteEnds.{RouteEnds}

-- a state of the walk of a kernel on an architecture, at an interval, with the earliest times
pub record Walking : Type 0 where
  pub arch : Arch
  pub kernel : Kernel
  pub ii : ℕ
  pub early : List ℕ
  pub state : State

-- the walk at another state
abbrev pub at_state : Walking → State → Walking
at_state W S = record W { state = S }

-- the invariant of the walk
pub record IsWalking (W : Walking) : Type 0 where
  pub arch : IsArch W.arch
  pub kernel : IsKernel W.kernel
  pub ready : IsReady W.arch W.kernel W.ii W.early
  pub good : IsGood W.arch W.kernel W.ii W.state

-- the data that is kept: the graph, the edge operands, a placement, a use table with the uses of the state, and the
-- number of edge operands without a route
pub record IsKept (W : Walking) (graph : Graph) (es : List EdgeOperand) (P : Placed) (T : Table) (lost : ℕ) : Type 0 where
  pub walking : IsWalking W
  pub by_graph : graph ≡ record { arch = W.arch; interval = W.ii }
  pub edges : es ≡ edges W.kernel
  pub placed : P ≡ record { arch = W.arch; kernel = W.kernel; ii = W.ii; early = W.early; places = W.state.places }
  pub alike : AreAlike T (table_of_state W.arch W.kernel W.ii W.state)
  pub count : length T.positions ≡ length (state_positions W.arch W.kernel W.ii W.state)
  pub missing : lost ≡ missing W.state

-- the ends of a route
abbrev pub ends_are : RouteEnds → Ends
ends_are e = record { from = e.from; start = e.start; to = e.to; end = e.end }

-- the ends of edge operand i
abbrev pub ends_at : Walking → ℕ → Ends
ends_at W i = ends_of W.arch W.ii W.state.places (edge W.kernel i)

-- the move may place its node there
pub record MayPlace (W : Walking) (m : Move) : Type 0 where
  pub known : m.node < size W.kernel
  pub within : m.place.unit < length W.arch.units
  pub offers : Contains (unit W.arch m.place.unit).ops (node W.kernel m.node).op
  pub soon : m.place.time ≤ latest_time

-- none of the edge operands that touch the node has a route
abbrev pub IsAlone : Walking → ℕ → Type 0
IsAlone W v =
    (i : ℕ) (path : List ℕ) → i < length (edges W.kernel) → touches W.kernel v i ≡ true → slice_get W.state.routes i ≢ Some (Some path)

-- these edge operands were routed, and no others
pub record IsRoutedBy (is : List ℕ) (W V : Walking) : Type 0 where
  pub same : V ≡ at_state W V.state
  pub routed : IsRouted W.arch W.kernel W.ii is W.state V.state
