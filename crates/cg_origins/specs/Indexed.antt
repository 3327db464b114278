-- The units of the outs.
use Rattle.std.specs.Prelude.{◌≡◌, ℕ, ◌<◌, List, length, slice_index}
use Rattle.cg_model.specs.Array.{Arch, IsArch, unit}

-- at the out of each unit the list has the unit's number
pub record AreOwners (A : Arch) (owners : List ℕ) : Type 0 where
  pub valid : IsArch A
  pub long : length owners ≡ length A.resources
  pub each : (x : ℕ) → x < length A.units → slice_index owners (unit A x).out ≡ x
