use Rattle.std.proofs.Common.{refl}
use Rattle.cg_effects.specs.Outcome.{file_of}
use Rattle.cg_cause.proofs.Allowed.{allows_weaker, stopped}
use Rattle.cg_bits.specs.Answers.{answer_in}
use Rattle.cg_bits.specs.Format.{cgb1}
use Rattle.cg_inputs.specs.Answered.{ReadThen}
use Rattle.cg_inputs.specs.Readings.{ReadsArch}
use Rattle.cg_inputs.proofs.Answered.{refused_answer}
use Rattle.cg_inputs.proofs.Both.{first_refused, next_answer}
use Rattle.cg_inputs.proofs.Readings.{arch_told}
use Rattle.cg_command_files.specs.Migrate.{IsMigrate, IsMigration, MigrateBits, ReadsFirst, ReadsMigration}
use Rattle.cg_command_files.proofs.Migrated.{first_answer}
use Rattle.cg_command_files.proofs.migrating.migrate.Goals as goal

pub returns-in_err-array : goal.returns-in_err-array
returns-in_err-array c =
    let arch = file_of c.args.arch.now in
    let file = file_of c.args.file.now in
    let s = c.in_err-array.field-0.0 in
    stopped (IsMigrate arch file c.args.out.now) s _ c.from_residual.ensures.1
    (refused_answer (ReadsMigration arch file) (IsMigration c.args.out.now) s (first_refused (ReadsArch arch) (λ A. ReadsFirst A file) s (arch_told arch s c.in_err-array.ensures.refused)))

pub returns : goal.returns
returns c =
    let file = file_of c.args.file.now in
    let out = c.args.out.now in
    let A = c.in_ok-array.array in
    next_answer (ReadsArch (file_of c.args.arch.now)) (λ A. ReadsFirst A file) (IsMigration out) A c.in_ok-array.ensures.given c.migrated.result
    (allows_weaker (λ o. MigrateBits A file.name out o (answer_in cgb1 A file.bytes)) (ReadThen (ReadsFirst A file) (λ C. IsMigration out (A, C))) c.migrated.result
    (λ o p. first_answer A file out (answer_in cgb1 A file.bytes) o refl p) c.migrated.ensures)
