use Rattle.std.proofs.Common.{Err}
use Rattle.cg_effects.specs.Outcome.{file_of}
use Rattle.cg_cause.proofs.Allowed.{passed_on}
use Rattle.cg_inputs.specs.Readings.{ReadsArch, ReadsArray, ReadsConfig}
use Rattle.cg_inputs.proofs.Both.{first_refused, next_refused}
use Rattle.cg_inputs.proofs.Readings.{arch_told, config_told}
use Rattle.cg_inputs.proofs.readers.array_in.Goals as goal

pub returns-in_err-array-clause-refused : goal.returns-in_err-array-clause-refused
returns-in_err-array-clause-refused c =
    let arch = file_of c.args.arch.now in
    let file = file_of c.args.bits.now in
    let s = c.in_err-array.field-0.0 in
    passed_on (λ o. ReadsArray arch file (Err o)) (λ o. ReadsArray arch file (Err o)) s _ c.from_residual.ensures.1 (λ o e. e)
    (first_refused (ReadsArch arch) (λ A. ReadsConfig A file) s (arch_told arch s c.in_err-array.ensures.refused))

pub returns-in_err-config-clause-refused : goal.returns-in_err-config-clause-refused
returns-in_err-config-clause-refused c =
    let arch = file_of c.args.arch.now in
    let file = file_of c.args.bits.now in
    let A = c.in_ok-array.array in
    let s = c.in_err-config.field-0.0 in
    passed_on (λ o. ReadsArray arch file (Err o)) (λ o. ReadsArray arch file (Err o)) s _ c.from_residual-in_err-config.ensures.1 (λ o e. e)
    (next_refused (ReadsArch arch) (λ A. ReadsConfig A file) A s c.in_ok-array.ensures.given (config_told A file s c.in_err-config.ensures.refused))

pub returns-clause-given : goal.returns-clause-given
returns-clause-given c = (c.in_ok-array.ensures.given, c.in_ok-config.ensures.given)
