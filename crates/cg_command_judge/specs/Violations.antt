-- `violations ARCH KERNEL MAPPING`.
use Rattle.std.specs.Prelude.{◌≡◌, ℕ, List, [], ◌∷◌}
use Rattle.cg_model.specs.Mapping.{IsLegal}
use Rattle.cg_effects.specs.declared.outcome.Status.TheVariants.{Done, No}
use Rattle.cg_effects.specs.Outcome.{Name, Bytes, File, Outcome}
use Rattle.cg_effects.specs.Ends.{Moment, IsPut, Wrote}
use Rattle.cg_effects.specs.Refusals.{reports}
use Rattle.cg_check.specs.Legal.{Mapped}
use Rattle.cg_check.specs.declared.rule.Violation.{Violation}
use Rattle.cg_inputs.specs.Answered.{ReadThen}
use Rattle.cg_inputs.specs.Sources.{AreMapped, HoldMapped}
use Rattle.cg_command_judge.specs.Check.{legal_report}
use Rattle.cg_violations.specs.Violations.{violations_of, AreAll}
use Rattle.cg_violations.specs.Faults.{fault_lines}

-- the maximum number of violations in a report
abbrev pub most_reported : ℕ
most_reported = 1000

-- a line for each violation
abbrev pub violations_report : Mapped → Bytes
violations_report m = fault_lines m.arch m.kernel m.mapping most_reported

-- given the list of violations
abbrev pub listed_by : Mapped → List Violation → Outcome
listed_by m [] = reports Done legal_report
listed_by m (v ∷ vs) = reports No (violations_report m)

abbrev pub IsListed : Mapped → Outcome → Type 0
IsListed m o = o ≡ listed_by m (violations_of m.arch m.kernel m.mapping)

abbrev pub IsViolations : File → File → File → Outcome → Type 0
IsViolations arch kernel mapping o = ReadThen (AreMapped arch kernel mapping) IsListed o

-- No: the mapping that was read isn't legal. Its violations were reported, only the first 1,000 if there are more, and
-- in part if the put call failed. Nothing was written
pub record IsViolatedRun (arch kernel mapping : Name) (before after : Moment) : Type 0 where
  pub mapped : Mapped
  pub read : HoldMapped arch kernel mapping before mapped
  pub illegal : IsLegal mapped.arch mapped.kernel mapped.mapping → ⊥
  pub violations : List Violation
  pub are : violations ≡ violations_of mapped.arch mapped.kernel mapped.mapping
  pub all : AreAll mapped.arch mapped.kernel mapped.mapping violations
  pub put : IsPut No (violations_report mapped) before after
  pub kept : Wrote before.held [] after.held
  pub no_write : after.write_faults ≡ before.write_faults
