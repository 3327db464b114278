-- Properties of each mapping that is read.
use Rattle.std.specs.Prelude.{◌≡◌, ℕ, ◌<◌, ◌≤◌, length, Some, slice_get}
use Rattle.cg_model.specs.Limits.{latest_time}
use Rattle.cg_model.specs.Array.{Arch}
use Rattle.cg_model.specs.Mapping.{Mapping}
use Rattle.cg_model.specs.declared.mapping.Place.{Place}
use Rattle.cg_model.specs.declared.mapping.Route.{Route}
use Rattle.cg_mapping.specs.Limits.{greatest_interval, longest_path}

-- its numbers are numbers of units and resources
pub record NamesParts (A : Arch) (M : Mapping) : Type 0 where
  pub units : (v : ℕ) (p : Place) → slice_get M.places v ≡ Some p → p.unit < length A.units
  pub paths : (i k r : ℕ) (route : Route) → slice_get M.routes i ≡ Some route → slice_get route.path k ≡ Some r → r < length A.resources

-- P5 doesn't apply
pub record IsWithinLimits (M : Mapping) : Type 0 where
  pub interval : M.ii ≤ greatest_interval
  pub times : (v : ℕ) (p : Place) → slice_get M.places v ≡ Some p → p.time ≤ latest_time
  pub paths : (i : ℕ) (route : Route) → slice_get M.routes i ≡ Some route → length route.path ≤ longest_path
