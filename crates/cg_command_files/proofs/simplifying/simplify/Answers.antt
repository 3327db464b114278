use Rattle.cg_effects.specs.Outcome.{file_of}
use Rattle.cg_cause.proofs.Allowed.{stopped}
use Rattle.cg_inputs.specs.Readings.{ReadsKernel}
use Rattle.cg_inputs.proofs.Answered.{given_answer, refused_answer}
use Rattle.cg_inputs.proofs.Readings.{kernel_told}
use Rattle.cg_command_files.specs.Simplify.{IsSimplifyOf, SimplifyOf}
use Rattle.cg_command_files.proofs.simplifying.simplify.Goals as goal

pub returns-in_err-kernel : goal.returns-in_err-kernel
returns-in_err-kernel c =
    let file = file_of c.args.file.now in
    let s = c.in_err-kernel.field-0.0 in
    stopped (IsSimplifyOf file c.args.out.now) s _ c.from_residual.ensures.1 (refused_answer (ReadsKernel file) (SimplifyOf c.args.out.now) s (kernel_told file s c.in_err-kernel.ensures.refused))

pub returns : goal.returns
returns c =
    let file = file_of c.args.file.now in
    given_answer (ReadsKernel file) (SimplifyOf c.args.out.now) c.in_ok-kernel.kernel c.simplified.result c.in_ok-kernel.ensures.given c.simplified.ensures
