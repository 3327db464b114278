-- `check ARCH KERNEL MAPPING`.
use Rattle.std.specs.Prelude.{◌≡◌, [], ◌∷◌, Option, Some, None, codes}
use Rattle.cg_model.specs.Array.{Arch}
use Rattle.cg_model.specs.Kernel.{Kernel}
use Rattle.cg_model.specs.Mapping.{IsLegal}
use Rattle.cg_effects.specs.declared.outcome.Status.TheVariants.{Done, No}
use Rattle.cg_files.specs.Held.{Appends}
use Rattle.cg_effects.specs.Outcome.{Name, Bytes, File, Outcome, line_of}
use Rattle.cg_effects.specs.Ends.{Moment, IsPut, Wrote}
use Rattle.cg_effects.specs.Refusals.{reports}
use Rattle.cg_check.specs.Legal.{Mapped}
use Rattle.cg_check.specs.declared.rule.Violation.{Violation}
use Rattle.cg_check.specs.Rules.{violation}
use Rattle.cg_check.specs.Texts.{rule_text}
use Rattle.cg_inputs.specs.Answered.{ReadThen}
use Rattle.cg_inputs.specs.Sources.{AreGiven, AreMapped, HoldMapped}

-- the mapping is legal
abbrev pub legal_report : Bytes
legal_report = line_of (codes "legal" ∷ [])

-- the lowest rule that the mapping violates, at the first place
abbrev pub illegal_report : Arch → Kernel → Violation → Bytes
illegal_report A K v = line_of (codes "illegal " ∷ rule_text A K v.rule v.place ∷ [])

-- given the violation, if there is one
abbrev pub checked_by : Mapped → Option Violation → Outcome
checked_by m None = reports Done legal_report
checked_by m (Some v) = reports No (illegal_report m.arch m.kernel v)

abbrev pub IsChecked : Mapped → Outcome → Type 0
IsChecked m o = o ≡ checked_by m (violation m.arch m.kernel m.mapping)

abbrev pub IsCheck : File → File → File → Outcome → Type 0
IsCheck arch kernel mapping o = ReadThen (AreMapped arch kernel mapping) IsChecked o

-- the files contain an architecture, a kernel and a legal mapping
pub record IsLegalInput (arch kernel mapping : File) : Type 0 where
  pub mapped : Mapped
  pub given : AreGiven arch.bytes kernel.bytes mapping.bytes mapped
  pub legal : IsLegal mapped.arch mapped.kernel mapped.mapping

-- Done: the mapping that was read is legal, and that was reported
pub record IsLegalCheck (arch kernel mapping : Name) (before after : Moment) : Type 0 where
  pub mapped : Mapped
  pub read : HoldMapped arch kernel mapping before mapped
  pub legal : IsLegal mapped.arch mapped.kernel mapped.mapping
  pub put : Appends before.taken legal_report after.taken

-- No: the mapping isn't legal; the lowest rule that it violates was reported with its first place, in part if the put
-- call failed. Nothing was written
pub record IsIllegalCheck (arch kernel mapping : Name) (before after : Moment) : Type 0 where
  pub mapped : Mapped
  pub read : HoldMapped arch kernel mapping before mapped
  pub illegal : IsLegal mapped.arch mapped.kernel mapped.mapping → ⊥
  pub lowest : Violation
  pub lowest_is : violation mapped.arch mapped.kernel mapped.mapping ≡ Some lowest
  pub put : IsPut No (illegal_report mapped.arch mapped.kernel lowest) before after
  pub kept : Wrote before.held [] after.held
  pub no_write : after.write_faults ≡ before.write_faults
