-- The invariant while the mapping over the hub is made.
use Rattle.std.specs.Prelude.{◌≡◌, ℕ, List, map}
use Rattle.std.specs.List.{range_with_len}
use Rattle.cg_model.specs.Kernel.{Kernel, IsKernel, size}
use Rattle.cg_model.specs.Array.{Arch, IsArch}
use Rattle.cg_model.specs.declared.mapping.Place.{Place}
use Rattle.cg_hub.specs.Hub.{HubEnough, hub_place}

-- a kernel on an architecture, at an interval
pub record Scheduled : Type 0 where
  pub arch : Arch
  pub kernel : Kernel
  pub ii : ℕ

-- both are valid, and the hub suffices
pub record IsScheduled (S : Scheduled) : Type 0 where
  pub arch : IsArch S.arch
  pub kernel : IsKernel S.kernel
  pub enough : HubEnough S.arch S.kernel S.ii

-- the places of the nodes
abbrev pub hub_places : Arch → Kernel → List Place
hub_places A K = map (hub_place A K) (range_with_len 0 (size K))

pub record IsKept (S : Scheduled) (places : List Place) : Type 0 where
  pub scheduled : IsScheduled S
  pub places_are : places ≡ hub_places S.arch S.kernel
