-- What every state of the walk satisfies.
use Rattle.std.specs.Prelude.{◌≡◌, ℕ, ◌+◌, ◌*◌, ◌<◌, ◌≤◌, List, length, Contains, Some, slice_get, slice_index}
use Rattle.cg_model.specs.Kernel.{Kernel, size, node}
use Rattle.cg_model.specs.Array.{Arch, unit}
use Rattle.cg_model.specs.Limits.{latest_time}
use Rattle.cg_route.specs.Least.{IsTimedPath}
use Rattle.cg_place.specs.Placed.{IsOffered, place_in}
use Rattle.cg_walk_spec.specs.State.{State, EdgeOperand, edges, ends_of}

-- the walk can begin: the array has enough contexts and a unit for each operation, and no random time is past the
-- latest one of a mapping
pub record IsReady (A : Arch) (K : Kernel) (ii : ℕ) (early : List ℕ) : Type 0 where
  pub interval : 0 < ii
  pub contexts : ii ≤ A.contexts
  pub offered : IsOffered A K
  pub each : length early ≡ size K
  pub soon : (v : ℕ) → v < size K → slice_index early v + 2 * ii + 7 ≤ latest_time

-- an entry for each node, edge operand, and resource and slot; each node is placed on a unit that offers its operation,
-- at a time of a mapping
pub record IsGood (A : Arch) (K : Kernel) (ii : ℕ) (S : State) : Type 0 where
  pub interval : 0 < ii
  pub contexts : ii ≤ A.contexts
  pub places : length S.places ≡ size K
  pub routes : length S.routes ≡ length (edges K)
  pub histories : length S.history ≡ length A.resources * ii
  pub units : (v : ℕ) → v < size K → (place_in S.places v).unit < length A.units
  pub offered : (v : ℕ) → v < size K → Contains (unit A (place_in S.places v).unit).ops (node K v).op
  pub soon : (v : ℕ) → v < size K → (place_in S.places v).time ≤ latest_time
  -- each route is a path between the ends that the current places give it
  pub paths : (i : ℕ) (e : EdgeOperand) (path : List ℕ) → slice_get (edges K) i ≡ Some e →
      slice_get S.routes i ≡ Some (Some path) → IsTimedPath A (ends_of A ii S.places e) path
