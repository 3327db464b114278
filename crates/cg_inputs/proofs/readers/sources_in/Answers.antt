use Rattle.std.proofs.Common.{Err}
use Rattle.cg_effects.specs.Outcome.{file_of}
use Rattle.cg_cause.proofs.Allowed.{passed_on}
use Rattle.cg_inputs.specs.Readings.{ReadsMapping}
use Rattle.cg_inputs.specs.Sources.{ArePaired, AreMapped}
use Rattle.cg_inputs.proofs.Both.{first_refused, next_refused}
use Rattle.cg_inputs.proofs.Readings.{mapping_told}
use Rattle.cg_inputs.proofs.readers.sources_in.Goals as goal

pub returns-in_err-instance-clause-refused : goal.returns-in_err-instance-clause-refused
returns-in_err-instance-clause-refused c =
    let arch = file_of c.args.arch.now in
    let kernel = file_of c.args.kernel.now in
    let mapping = file_of c.args.mapping.now in
    let s = c.in_err-instance.field-0.0 in
    passed_on (λ o. AreMapped arch kernel mapping (Err o)) (λ o. AreMapped arch kernel mapping (Err o)) s _ c.from_residual.ensures.1 (λ o e. e)
    (first_refused (ArePaired arch kernel) (λ p. ReadsMapping p.arch p.kernel mapping) s c.in_err-instance.ensures.refused)

pub returns-in_err-placed-clause-refused : goal.returns-in_err-placed-clause-refused
returns-in_err-placed-clause-refused c =
    let arch = file_of c.args.arch.now in
    let kernel = file_of c.args.kernel.now in
    let mapping = file_of c.args.mapping.now in
    let i = c.in_ok-instance.instance in
    let s = c.in_err-placed.field-0.0 in
    passed_on (λ o. AreMapped arch kernel mapping (Err o)) (λ o. AreMapped arch kernel mapping (Err o)) s _ c.from_residual-in_err-placed.ensures.1 (λ o e. e)
    (next_refused (ArePaired arch kernel) (λ p. ReadsMapping p.arch p.kernel mapping) (record { arch = i.arch; kernel = i.kernel }) s c.in_ok-instance.ensures.given
    (mapping_told i.arch i.kernel mapping s c.in_err-placed.ensures.refused))

pub returns-clause-given : goal.returns-clause-given
returns-clause-given c =
    let pair = c.in_ok-instance.ensures.given in
    record { arch_is = pair.arch_is; kernel_is = pair.kernel_is; mapping_is = c.in_ok-placed.ensures.given }
