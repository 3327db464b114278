-- Files that are refused, each for a fault in it.
use Rattle.std.specs.Prelude.{◌≡◌, ◌≢◌, Result, Err}
use Rattle.cg_model.specs.Array.{Arch}
use Rattle.cg_model.specs.Kernel.{Kernel}
use Rattle.cg_effects.specs.Outcome.{Name, Bytes, File, Outcome}
use Rattle.cg_effects.specs.Refusals.{malformed_of}
use Rattle.cg_grid.specs.declared.fault.TilesFault.TheVariants as tiles_fault
use Rattle.cg_grid.specs.Texts.{tiles_fault_text}
use Rattle.cg_tiles.specs.Answer as tiles
use Rattle.cg_kernel.specs.declared.fault.KernelFault.TheVariants as kernel_fault
use Rattle.cg_kernel.specs.Answer as kernels
use Rattle.cg_kernel.specs.Texts.{kernel_fault_text}
use Rattle.cg_mapping.specs.declared.fault.MappingFault.TheVariants as mapping_fault
use Rattle.cg_mapping.specs.Answer as mappings
use Rattle.cg_mapping.specs.Texts.{mapping_fault_text}
use Rattle.cg_pad.specs.declared.fault.ImageFault.TheVariants as image_fault
use Rattle.cg_pad.specs.Bytes as images
use Rattle.cg_pad.specs.Texts.{image_fault_text}
use Rattle.cg_bits.specs.declared.fault.BitsFault.TheVariants as bits_fault
use Rattle.cg_bits.specs.Answers as bits
use Rattle.cg_bits.specs.Texts.{bits_fault_text}

-- the outcome reports a fault that is an answer and isn't out of memory, by the text of the fault and the name of the
-- file
pub record Tells {X F : Type 0} (IsAnswer : Result X F → Type 0) (memory : F) (text : F → Bytes) (file : Name) (o : Outcome) : Type 0 where
  pub fault : F
  pub is_fault : IsAnswer (Err fault)
  pub no_memory : fault ≢ memory
  pub outcome : o ≡ malformed_of file (text fault)

-- the file contains no valid architecture
abbrev pub RefusesArch : File → Outcome → Type 0
RefusesArch file o = Tells (tiles.IsAnswer file.bytes) tiles_fault.Memory tiles_fault_text file.name o

-- the file contains no valid kernel
abbrev pub RefusesKernel : File → Outcome → Type 0
RefusesKernel file o = Tells (λ r. kernels.answer_of file.bytes ≡ r) kernel_fault.Memory kernel_fault_text file.name o

-- the file contains no valid mapping of the kernel to the architecture
abbrev pub RefusesMapping : Arch → Kernel → File → Outcome → Type 0
RefusesMapping A K file o = Tells (λ r. mappings.answer_of A K file.bytes ≡ r) mapping_fault.Memory mapping_fault_text file.name o

-- the file contains no valid image
abbrev pub RefusesImage : File → Outcome → Type 0
RefusesImage file o = Tells (λ r. images.answer_of file.bytes ≡ r) image_fault.Memory image_fault_text file.name o

-- the file contains no valid configuration of the architecture
abbrev pub RefusesBits : Arch → File → Outcome → Type 0
RefusesBits A file o = Tells (λ r. bits.answer_of A file.bytes ≡ r) bits_fault.Memory bits_fault_text file.name o
