-- What two files give: an architecture and a kernel, or a refusal.
use Rattle.std.proofs.Common.{◌≡◌, Result, Ok, refl}
use Rattle.cg_model.specs.Array.{IsArch}
use Rattle.cg_model.specs.Kernel.{IsKernel}
use Rattle.cg_effects.specs.Outcome.{Bytes, File, Outcome}
use Rattle.cg_kernel.proofs.Spelled.{spelled_valid}
use Rattle.cg_inputs.specs.Answered.{ReadBoth}
use Rattle.cg_inputs.specs.Readings.{ReadsArch, ReadsKernel}
use Rattle.cg_inputs.specs.Sources.{Pair, ArePaired, GivesPair}
use Rattle.cg_inputs.proofs.Arrays.{valid_array}
use Rattle.cg_inputs.proofs.Answered.{IsReading}
use Rattle.cg_inputs.proofs.Both.{as_reading, both_reading, only}
use Rattle.cg_inputs.proofs.Readings.{arch_reading, kernel_reading}

-- two files can be read
pub pair_reading : (arch kernel : File) → IsReading (ArePaired arch kernel)
pair_reading arch kernel =
    as_reading (ReadBoth (ReadsArch arch) (λ A. ReadsKernel kernel)) (ArePaired arch kernel)
    (both_reading (ReadsArch arch) (λ A. ReadsKernel kernel) (arch_reading arch) (λ A is. kernel_reading kernel))
    (λ p. (p.arch, p.kernel)) (λ x. record { arch = x.0; kernel = x.1 }) (λ p. refl)
    (λ p g. (g.arch_is, g.kernel_is)) (λ x g. record { arch_is = g.0; kernel_is = g.1 }) (λ o e. e) (λ o e. e)

-- what files that give a pair give
pub pair_is : (arch kernel : File) (p : Pair) (pair : Result Pair Outcome) → GivesPair arch.bytes kernel.bytes p → ArePaired arch kernel pair → pair ≡ Ok p
pair_is arch kernel p pair g a = only (ArePaired arch kernel) (pair_reading arch kernel) p g pair a

-- the architecture and the kernel are valid
pub valid_pair : (arch kernel : Bytes) (p : Pair) → GivesPair arch kernel p → IsArch p.arch × IsKernel p.kernel
valid_pair arch kernel p g = (valid_array arch p.arch g.arch_is, spelled_valid kernel p.kernel g.kernel_is)
