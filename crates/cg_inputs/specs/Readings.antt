-- How the input files of commands are read.
use Rattle.std.specs.Prelude.{◌≡◌, Result}
use Rattle.cg_model.specs.Array.{Arch}
use Rattle.cg_model.specs.Config.{Config}
use Rattle.cg_model.specs.Kernel.{Kernel}
use Rattle.cg_model.specs.Mapping.{Mapping}
use Rattle.cg_model.specs.Work.{Image}
use Rattle.cg_effects.specs.Outcome.{File, Outcome}
use Rattle.cg_grid.specs.declared.fault.TilesFault.TheVariants as tiles_fault
use Rattle.cg_grid.specs.Texts.{tiles_fault_text}
use Rattle.cg_tiles.specs.Answer as tiles
use Rattle.cg_kernel.specs.Answer as kernels
use Rattle.cg_kernel.specs.Texts.{kernel_fault_text}
use Rattle.cg_mapping.specs.Answer as mappings
use Rattle.cg_mapping.specs.Texts.{mapping_fault_text}
use Rattle.cg_pad.specs.Bytes as images
use Rattle.cg_pad.specs.Texts.{image_fault_text}
use Rattle.cg_bits.specs.Answers as bits
use Rattle.cg_bits.specs.Texts.{bits_fault_text}
use Rattle.cg_inputs.specs.Answered.{Parsed, ReadBoth, WithMemory}

-- an architecture. Of its faults only the loop may be chosen
abbrev pub ReadsArch : File → Result Arch Outcome → Type 0
ReadsArch file r = Parsed (WithMemory (tiles.IsAnswer file.bytes) tiles_fault.Memory) tiles_fault_text file.name r

abbrev pub ReadsKernel : File → Result Kernel Outcome → Type 0
ReadsKernel file r = Parsed (λ a. kernels.answer_of file.bytes ≡ a) kernel_fault_text file.name r

abbrev pub ReadsImage : File → Result Image Outcome → Type 0
ReadsImage file r = Parsed (λ a. images.answer_of file.bytes ≡ a) image_fault_text file.name r

-- a mapping of the kernel to the architecture
abbrev pub ReadsMapping : Arch → Kernel → File → Result Mapping Outcome → Type 0
ReadsMapping A K file r = Parsed (λ a. mappings.answer_of A K file.bytes ≡ a) mapping_fault_text file.name r

-- a configuration of the architecture
abbrev pub ReadsConfig : Arch → File → Result Config Outcome → Type 0
ReadsConfig A file r = Parsed (λ a. bits.answer_of A file.bytes ≡ a) bits_fault_text file.name r

-- an architecture and then a configuration of it
abbrev pub ReadsArray : File → File → Result (Arch × Config) Outcome → Type 0
ReadsArray arch file r = ReadBoth (ReadsArch arch) (λ A. ReadsConfig A file) r
