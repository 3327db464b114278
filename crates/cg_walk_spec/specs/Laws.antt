-- The laws of the walk.
use Rattle.std.specs.Prelude.{◌≡◌, ◌≢◌, ℕ, ◌+◌, ◌-◌, ◌*◌, ◌^◌, ◌<◌, ◌≤◌, true, List, All, length, Option, Some, None, slice_get, slice_index}
use Rattle.rand_pcg.specs.Lcg.{Lcg}
use Rattle.cg_model.specs.Limits.{most_nodes}
use Rattle.cg_model.specs.Kernel.{Kernel, IsKernel, size}
use Rattle.cg_model.specs.Array.{Arch, IsArch}
use Rattle.cg_model.specs.Mapping.{IsLegal, positions_on}
use Rattle.cg_recur.specs.declared.edge.EdgeId.{EdgeId}
use Rattle.cg_recur.specs.Edges.{edge_of}
use Rattle.cg_recur.specs.Chain.{IsEarly}
use Rattle.cg_recur.specs.Recurrences.{IsRecurrence}
use Rattle.cg_congestion.specs.Table.{Table, IsMore, excess, aged}
use Rattle.cg_route.specs.Least.{Ends, IsTimedPath, IsFound}
use Rattle.cg_place.specs.declared.moves.Move.{Move}
use Rattle.cg_place.specs.Placed.{moved}
use Rattle.cg_place.specs.Counts.{order_violations, unit_excess}
use Rattle.cg_walk_spec.specs.State.{State, edges, ends_of, table_of_state, state_positions, missing, weight, cost, mapping_of}
use Rattle.cg_walk_spec.specs.Walk.{edge, with_route, touches, Walked, IsEnd}
use Rattle.cg_walk_spec.specs.Good.{IsReady, IsGood}
use Rattle.cg_walk_spec.specs.Alike.{AreAlike}
use Rattle.cg_walk_spec.specs.Ranges.{AreInRange, most_steps}

-- a good state of cost 0 represents a legal mapping
abbrev pub IsLegalAtZero : Type 0
IsLegalAtZero =
    (A : Arch) (K : Kernel) (ii : ℕ) (S : State) → IsArch A → IsKernel K → IsGood A K ii S →
    cost A K ii S ≡ 0 → IsLegal A K (mapping_of K ii S)

-- the number of moves determines the generator and the state
abbrev pub IsOneWalk : Type 0
IsOneWalk =
    (A : Arch) (K : Kernel) (ii : ℕ) (early : List ℕ) (moves seed k : ℕ) (g h : Lcg) (S T : State) →
    Walked A K ii early moves seed k g S → Walked A K ii early moves seed k h T → (g ≡ h) × (S ≡ T)

-- a walk has one end
abbrev pub IsOneEnd : Type 0
IsOneEnd =
    (A : Arch) (K : Kernel) (ii : ℕ) (early : List ℕ) (moves seed k l : ℕ) (g h : Lcg) (S T : State) →
    IsEnd A K ii early moves seed k g S → IsEnd A K ii early moves seed l h T → (k ≡ l) × (g ≡ h) × (S ≡ T)

-- and a walk that can begin has an end
abbrev pub IsAlwaysEnded : Type 0
IsAlwaysEnded =
    (A : Arch) (K : Kernel) (ii : ℕ) (early : List ℕ) (moves seed : ℕ) →
    IsArch A → IsKernel K → IsReady A K ii early →
    (k : ℕ) × (g : Lcg) × (S : State) × IsEnd A K ii early moves seed k g S

-- every state of a walk that can begin is good
abbrev pub IsGoodAllAlong : Type 0
IsGoodAllAlong =
    (A : Arch) (K : Kernel) (ii : ℕ) (early : List ℕ) (moves seed k : ℕ) (g : Lcg) (S : State) →
    IsReady A K ii early → Walked A K ii early moves seed k g S → IsGood A K ii S

-- so a walk that can begin, and comes to a state of cost 0, has found a legal mapping
abbrev pub IsLegalWhereFound : Type 0
IsLegalWhereFound =
    (A : Arch) (K : Kernel) (ii : ℕ) (early : List ℕ) (moves seed k : ℕ) (g : Lcg) (S : State) →
    IsArch A → IsKernel K → IsReady A K ii early → Walked A K ii early moves seed k g S →
    cost A K ii S ≡ 0 → IsLegal A K (mapping_of K ii S)

-- a route is added: where an edge operand has none, the positions of the path that it gets are added
abbrev pub IsRouteMore : Type 0
IsRouteMore =
    (A : Arch) (K : Kernel) (ii : ℕ) (S : State) (i : ℕ) (path : List ℕ) →
    i < length (edges K) → slice_get S.routes i ≡ Some None →
    IsMore (table_of_state A K ii S) (table_of_state A K ii (with_route S i (Some path)))
    (positions_on A (edge K i).source (ends_of A ii S.places (edge K i)).start path)

-- a route is removed: the positions of the path that an edge operand had are taken away
abbrev pub IsRouteLess : Type 0
IsRouteLess =
    (A : Arch) (K : Kernel) (ii : ℕ) (S : State) (i : ℕ) (path : List ℕ) →
    i < length (edges K) → slice_get S.routes i ≡ Some (Some path) →
    IsMore (table_of_state A K ii (with_route S i None)) (table_of_state A K ii S)
    (positions_on A (edge K i).source (ends_of A ii S.places (edge K i)).start path)

-- a node is placed: where none of the edge operands that touch it has a route, no position changes
abbrev pub IsPlacedAlone : Type 0
IsPlacedAlone =
    (A : Arch) (K : Kernel) (ii : ℕ) (S : State) (m : Move) →
    ((i : ℕ) (path : List ℕ) → i < length (edges K) → touches K m.node i ≡ true →
    slice_get S.routes i ≢ Some (Some path)) →
    state_positions A K ii (record S { places = moved S.places m }) ≡ state_positions A K ii S

-- excess, aged histories and the path that is found depend on the numbers of uses alone
abbrev pub IsExcessByUses : Type 0
IsExcessByUses = (T R : Table) → AreAlike T R → excess T ≡ excess R

abbrev pub IsAgedByUses : Type 0
IsAgedByUses = (T R : Table) → AreAlike T R → aged T ≡ aged R

abbrev pub IsFoundByUses : Type 0
IsFoundByUses =
    (T R : Table) (u : ℕ) (ends : Ends) (found : Option (List ℕ)) → AreAlike T R →
    IsFound T u ends found → IsFound R u ends found

-- so does the cost, apart from the places and the number of routes
abbrev pub IsCostByUses : Type 0
IsCostByUses =
    (A : Arch) (K : Kernel) (ii : ℕ) (S : State) (T : Table) → AreAlike T (table_of_state A K ii S) →
    cost A K ii S
    ≡ weight * (missing S + order_violations K ii S.places + unit_excess A ii S.places) + excess T

-- the route of each edge operand of a good state begins and ends in range
abbrev pub AreEndsInRange : Type 0
AreEndsInRange =
    (A : Arch) (K : Kernel) (ii : ℕ) (S : State) (i : ℕ) → IsArch A → IsKernel K → IsGood A K ii S →
    i < length (edges K) → AreInRange A (ends_of A ii S.places (edge K i))

-- a path between such ends has few resources, all of the architecture
abbrev pub IsPathInRange : Type 0
IsPathInRange =
    (A : Arch) (ends : Ends) (path : List ℕ) → IsArch A → AreInRange A ends → IsTimedPath A ends path →
    All (λ r. r < length A.resources) path × (length path ≤ most_steps)

-- there is room in a table for the positions of a good state and of one path more
abbrev pub IsRoomEnough : Type 0
IsRoomEnough =
    (A : Arch) (K : Kernel) (ii : ℕ) (S : State) → IsArch A → IsKernel K → IsGood A K ii S →
    length (state_positions A K ii S) + most_steps ≤ 2 ^ 48

-- no history has grown more often than moves were made
abbrev pub AreHistoriesSmall : Type 0
AreHistoriesSmall =
    (A : Arch) (K : Kernel) (ii : ℕ) (early : List ℕ) (moves seed k : ℕ) (g : Lcg) (S : State) →
    Walked A K ii early moves seed k g S → All (λ h. h ≤ k) S.history

-- where no recurrence forbids the interval, no earliest time is later than 4,092: each of fewer than 1,024
-- edges takes at most 4 cycles
abbrev pub AreTimesSoon : Type 0
AreTimesSoon =
    (A : Arch) (K : Kernel) (ii : ℕ) (early : List ℕ) → IsArch A → IsKernel K →
    ((v : ℕ) → v < size K → IsEarly (edge_of A K) ii v (slice_index early v)) →
    ((ids : List EdgeId) → IsRecurrence A K ii ids → ⊥) →
    (v : ℕ) → v < size K → slice_index early v ≤ 4 * (most_nodes - 1)
