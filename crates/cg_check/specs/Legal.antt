-- Mappings with their architectures and kernels.
use Rattle.cg_model.specs.Kernel.{Kernel}
use Rattle.cg_model.specs.Array.{Arch}
use Rattle.cg_model.specs.Mapping.{Mapping}
use Rattle.cg_model.specs.Config.{Config}
use Rattle.cg_model.specs.Configured.{configuration_of}

-- an architecture, a kernel and a mapping of the kernel on the architecture
pub record Mapped : Type 0 where
  pub arch : Arch
  pub kernel : Kernel
  pub mapping : Mapping

-- the configuration of a mapping
abbrev pub config_of : Mapped → Config
config_of m = configuration_of m.arch m.kernel m.mapping
