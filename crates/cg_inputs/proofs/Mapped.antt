-- What three files give: an architecture, a kernel and a mapping, or a refusal.
use Rattle.std.proofs.Common.{◌≡◌, Result, Ok, refl, sym}
use Rattle.cg_model.specs.Array.{IsArch}
use Rattle.cg_model.specs.Kernel.{IsKernel}
use Rattle.cg_model.specs.Mapping.{IsShaped}
use Rattle.cg_effects.specs.Outcome.{Bytes, File, Outcome}
use Rattle.cg_kernel.proofs.Spelled.{spelled_valid}
use Rattle.cg_mapping.proofs.Answered.{answered-shaped}
use Rattle.cg_check.specs.Legal.{Mapped}
use Rattle.cg_inputs.specs.Answered.{ReadBoth}
use Rattle.cg_inputs.specs.Readings.{ReadsMapping}
use Rattle.cg_inputs.specs.Sources.{ArePaired, AreGiven, AreMapped}
use Rattle.cg_inputs.proofs.Arrays.{valid_array}
use Rattle.cg_inputs.proofs.Answered.{IsReading}
use Rattle.cg_inputs.proofs.Both.{as_reading, both_reading, only}
use Rattle.cg_inputs.proofs.Paired.{pair_reading}
use Rattle.cg_inputs.proofs.Readings.{mapping_reading}

-- three files can be read
pub mapped_reading : (arch kernel mapping : File) → IsReading (AreMapped arch kernel mapping)
mapped_reading arch kernel mapping =
    as_reading (ReadBoth (ArePaired arch kernel) (λ p. ReadsMapping p.arch p.kernel mapping)) (AreMapped arch kernel mapping)
    (both_reading (ArePaired arch kernel) (λ p. ReadsMapping p.arch p.kernel mapping) (pair_reading arch kernel) (λ p is. mapping_reading p.arch p.kernel mapping))
    (λ m. (record { arch = m.arch; kernel = m.kernel }, m.mapping)) (λ x. record { arch = x.0.arch; kernel = x.0.kernel; mapping = x.1 }) (λ m. refl)
    (λ m g. (record { arch_is = g.arch_is; kernel_is = g.kernel_is }, g.mapping_is)) (λ x g. record { arch_is = g.0.arch_is; kernel_is = g.0.kernel_is; mapping_is = g.1 }) (λ o e. e) (λ o e. e)

-- what files that give all three give
pub mapped_is : (arch kernel mapping : File) (m : Mapped) (mapped : Result Mapped Outcome) → AreGiven arch.bytes kernel.bytes mapping.bytes m → AreMapped arch kernel mapping mapped → mapped ≡ Ok m
mapped_is arch kernel mapping m mapped g a = only (AreMapped arch kernel mapping) (mapped_reading arch kernel mapping) m g mapped a

-- all three are valid
pub record IsValid (m : Mapped) : Type 0 where
  pub arch : IsArch m.arch
  pub kernel : IsKernel m.kernel
  pub shape : IsShaped m.kernel m.mapping

pub valid_given : (arch kernel mapping : Bytes) (m : Mapped) → AreGiven arch kernel mapping m → IsValid m
valid_given arch kernel mapping m g =
    record { arch = valid_array arch m.arch g.arch_is; kernel = spelled_valid kernel m.kernel g.kernel_is; shape = answered-shaped m.arch m.kernel mapping (Ok m.mapping) (sym g.mapping_is) }
