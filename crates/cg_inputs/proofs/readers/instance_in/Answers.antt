use Rattle.std.proofs.Common.{Err}
use Rattle.cg_effects.specs.Outcome.{file_of}
use Rattle.cg_cause.proofs.Allowed.{passed_on}
use Rattle.cg_inputs.specs.Readings.{ReadsArch, ReadsKernel}
use Rattle.cg_inputs.specs.Sources.{ArePaired}
use Rattle.cg_inputs.proofs.Both.{first_refused, next_refused}
use Rattle.cg_inputs.proofs.Readings.{arch_told, kernel_told}
use Rattle.cg_inputs.proofs.readers.instance_in.Goals as goal

pub returns-in_err-array-clause-refused : goal.returns-in_err-array-clause-refused
returns-in_err-array-clause-refused c =
    let arch = file_of c.args.arch.now in
    let kernel = file_of c.args.kernel.now in
    let s = c.in_err-array.field-0.0 in
    passed_on (λ o. ArePaired arch kernel (Err o)) (λ o. ArePaired arch kernel (Err o)) s _ c.from_residual.ensures.1 (λ o e. e)
    (first_refused (ReadsArch arch) (λ A. ReadsKernel kernel) s (arch_told arch s c.in_err-array.ensures.refused))

pub returns-in_err-graph-clause-refused : goal.returns-in_err-graph-clause-refused
returns-in_err-graph-clause-refused c =
    let arch = file_of c.args.arch.now in
    let kernel = file_of c.args.kernel.now in
    let s = c.in_err-graph.field-0.0 in
    passed_on (λ o. ArePaired arch kernel (Err o)) (λ o. ArePaired arch kernel (Err o)) s _ c.from_residual-in_err-graph.ensures.1 (λ o e. e)
    (next_refused (ReadsArch arch) (λ A. ReadsKernel kernel) c.in_ok-array.array s c.in_ok-array.ensures.given (kernel_told kernel s c.in_err-graph.ensures.refused))

pub returns-clause-given : goal.returns-clause-given
returns-clause-given c = record { arch_is = c.in_ok-array.ensures.given; kernel_is = c.in_ok-graph.ensures.given }
