-- The architecture, the kernel and the mapping in the input files of a command, read in this order.
use Rattle.std.specs.Prelude.{◌≡◌, Result, Ok, Err}
use Rattle.cg_model.specs.Array.{Arch}
use Rattle.cg_model.specs.Kernel.{Kernel}
use Rattle.cg_effects.specs.Outcome.{Name, Bytes, File, Outcome}
use Rattle.cg_effects.specs.Ends.{Moment}
use Rattle.cg_files.specs.Held.{Holds}
use Rattle.cg_tiles.specs.Answer.{AreValidBytes}
use Rattle.cg_kernel.specs.Answer as kernels
use Rattle.cg_mapping.specs.Answer as mappings
use Rattle.cg_check.specs.Legal.{Mapped}
use Rattle.cg_inputs.specs.Answered.{ReadBoth}
use Rattle.cg_inputs.specs.Readings.{ReadsArch, ReadsKernel, ReadsMapping}

-- an architecture and a kernel
pub record Pair : Type 0 where
  pub arch : Arch
  pub kernel : Kernel

-- bytes that describe an architecture and a kernel
pub record GivesPair (arch kernel : Bytes) (p : Pair) : Type 0 where
  pub arch_is : AreValidBytes arch p.arch
  pub kernel_is : kernels.answer_of kernel ≡ Ok p.kernel

-- the result of reading two files
abbrev pub ArePaired : File → File → Result Pair Outcome → Type 0
ArePaired arch kernel (Ok p) = GivesPair arch.bytes kernel.bytes p
ArePaired arch kernel (Err refused) = ReadBoth (ReadsArch arch) (λ A. ReadsKernel kernel) (Err refused)

-- files of these names are held and contain an architecture and a kernel
pub record HoldPair (arch kernel : Name) (before : Moment) (p : Pair) : Type 0 where
  pub arch_bytes : Bytes
  pub arch_held : Holds before.held arch arch_bytes
  pub kernel_bytes : Bytes
  pub kernel_held : Holds before.held kernel kernel_bytes
  pub given : GivesPair arch_bytes kernel_bytes p

-- bytes that describe an architecture, a kernel and a mapping
pub record AreGiven (arch kernel mapping : Bytes) (m : Mapped) : Type 0 where
  pub arch_is : AreValidBytes arch m.arch
  pub kernel_is : kernels.answer_of kernel ≡ Ok m.kernel
  pub mapping_is : mappings.answer_of m.arch m.kernel mapping ≡ Ok m.mapping

-- the result of reading three files
abbrev pub AreMapped : File → File → File → Result Mapped Outcome → Type 0
AreMapped arch kernel mapping (Ok m) = AreGiven arch.bytes kernel.bytes mapping.bytes m
AreMapped arch kernel mapping (Err refused) = ReadBoth (ArePaired arch kernel) (λ p. ReadsMapping p.arch p.kernel mapping) (Err refused)

-- files of these names are held and contain an architecture, a kernel and a mapping
pub record HoldMapped (arch kernel mapping : Name) (before : Moment) (m : Mapped) : Type 0 where
  pub arch_bytes : Bytes
  pub arch_held : Holds before.held arch arch_bytes
  pub kernel_bytes : Bytes
  pub kernel_held : Holds before.held kernel kernel_bytes
  pub mapping_bytes : Bytes
  pub mapping_held : Holds before.held mapping mapping_bytes
  pub given : AreGiven arch_bytes kernel_bytes mapping_bytes m
