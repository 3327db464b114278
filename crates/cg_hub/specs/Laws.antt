-- The laws of the hub's mapping.
use Rattle.std.specs.Prelude.{ℕ}
use Rattle.cg_model.specs.Kernel.{Kernel, IsKernel}
use Rattle.cg_model.specs.Array.{Arch, IsArch}
use Rattle.cg_model.specs.Mapping.{IsLegal}
use Rattle.cg_place.specs.Placed.{IsOffered}
use Rattle.cg_hub.specs.Hub.{HubEnough, hub_map}

-- where the hub suffices, its mapping is legal
abbrev pub IsHubLegal : Type 0
IsHubLegal = (A : Arch) (K : Kernel) (ii : ℕ) → IsArch A → IsKernel K → HubEnough A K ii → IsLegal A K (hub_map A K ii)

-- and each operation of the kernel is offered by some unit
abbrev pub IsHubOffered : Type 0
IsHubOffered = (A : Arch) (K : Kernel) (ii : ℕ) → HubEnough A K ii → IsOffered A K
