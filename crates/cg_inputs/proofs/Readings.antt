-- The input files of commands can be read.
use Rattle.std.proofs.Common.{Err}
use Rattle.cg_model.specs.Array.{Arch}
use Rattle.cg_model.specs.Kernel.{Kernel}
use Rattle.cg_effects.specs.Outcome.{File}
use Rattle.cg_cause.specs.declared.stop.Stop.{Stop}
use Rattle.cg_cause.specs.Allowed.{EndsBy}
use Rattle.cg_grid.specs.declared.fault.TilesFault.TheVariants as tiles_fault
use Rattle.cg_grid.specs.Texts.{tiles_fault_text}
use Rattle.cg_tiles.specs.Answer as tiles
use Rattle.cg_tiles.proofs.NotBoth.{not_both}
use Rattle.cg_tiles.proofs.Solved.{some_answer}
use Rattle.cg_kernel.specs.declared.fault.KernelFault.TheVariants as kernel_fault
use Rattle.cg_kernel.specs.Answer as kernels
use Rattle.cg_kernel.specs.Texts.{kernel_fault_text}
use Rattle.cg_mapping.specs.declared.fault.MappingFault.TheVariants as mapping_fault
use Rattle.cg_mapping.specs.Answer as mappings
use Rattle.cg_mapping.specs.Texts.{mapping_fault_text}
use Rattle.cg_pad.specs.declared.fault.ImageFault.TheVariants as image_fault
use Rattle.cg_pad.specs.Bytes as images
use Rattle.cg_pad.specs.Texts.{image_fault_text}
use Rattle.cg_bits.specs.declared.fault.BitsFault.TheVariants as bits_fault
use Rattle.cg_bits.specs.Answers as bits
use Rattle.cg_bits.specs.Texts.{bits_fault_text}
use Rattle.cg_inputs.specs.Answered.{WithMemory}
use Rattle.cg_inputs.specs.Refused.{RefusesArch, RefusesBits, RefusesImage, RefusesKernel, RefusesMapping}
use Rattle.cg_inputs.specs.Readings.{ReadsArch, ReadsArray, ReadsConfig, ReadsImage, ReadsKernel, ReadsMapping}
use Rattle.cg_inputs.proofs.Answered.{IsReading}
use Rattle.cg_inputs.proofs.Arrays.{same_array}
use Rattle.cg_inputs.proofs.Both.{both_reading}
use Rattle.cg_inputs.proofs.Parsed.{IsParsing, determined, parsed_reading, told, told_other, with_memory}

-- ---- architectures

arch_parsing : (file : File) → IsParsing (WithMemory (tiles.IsAnswer file.bytes) tiles_fault.Memory)
arch_parsing file =
    let (r, other, is) = some_answer file.bytes in
    record {
      one = same_array file.bytes;
      apart = λ A f a e. not_both file.bytes A f a (e.0 e.1);
      some = (r, with_memory (tiles.IsAnswer file.bytes) tiles_fault.Memory r other is);
    }

pub arch_reading : (file : File) → IsReading (ReadsArch file)
arch_reading file = parsed_reading (WithMemory (tiles.IsAnswer file.bytes) tiles_fault.Memory) tiles_fault_text file.name (arch_parsing file)

pub arch_told : (file : File) (s : Stop) → EndsBy (RefusesArch file) s → EndsBy (λ o. ReadsArch file (Err o)) s
arch_told file = told_other (tiles.IsAnswer file.bytes) tiles_fault_text file.name tiles_fault.Memory

-- ---- kernels

pub kernel_reading : (file : File) → IsReading (ReadsKernel file)
kernel_reading file = parsed_reading _ kernel_fault_text file.name (determined (kernels.answer_of file.bytes))

pub kernel_told : (file : File) (s : Stop) → EndsBy (RefusesKernel file) s → EndsBy (λ o. ReadsKernel file (Err o)) s
kernel_told file = told _ kernel_fault_text file.name kernel_fault.Memory

-- ---- mappings

pub mapping_reading : (A : Arch) (K : Kernel) (file : File) → IsReading (ReadsMapping A K file)
mapping_reading A K file = parsed_reading _ mapping_fault_text file.name (determined (mappings.answer_of A K file.bytes))

pub mapping_told : (A : Arch) (K : Kernel) (file : File) (s : Stop) → EndsBy (RefusesMapping A K file) s → EndsBy (λ o. ReadsMapping A K file (Err o)) s
mapping_told A K file = told _ mapping_fault_text file.name mapping_fault.Memory

-- ---- images

pub image_reading : (file : File) → IsReading (ReadsImage file)
image_reading file = parsed_reading _ image_fault_text file.name (determined (images.answer_of file.bytes))

pub image_told : (file : File) (s : Stop) → EndsBy (RefusesImage file) s → EndsBy (λ o. ReadsImage file (Err o)) s
image_told file = told _ image_fault_text file.name image_fault.Memory

-- ---- configurations

pub config_reading : (A : Arch) (file : File) → IsReading (ReadsConfig A file)
config_reading A file = parsed_reading _ bits_fault_text file.name (determined (bits.answer_of A file.bytes))

pub config_told : (A : Arch) (file : File) (s : Stop) → EndsBy (RefusesBits A file) s → EndsBy (λ o. ReadsConfig A file (Err o)) s
config_told A file = told _ bits_fault_text file.name bits_fault.Memory

pub array_reading : (arch file : File) → IsReading (ReadsArray arch file)
array_reading arch file = both_reading (ReadsArch arch) (λ A. ReadsConfig A file) (arch_reading arch) (λ A is. config_reading A file)
