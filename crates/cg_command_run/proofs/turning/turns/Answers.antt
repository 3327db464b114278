use Rattle.cg_effects.specs.Outcome.{file_of}
use Rattle.cg_cause.proofs.Allowed.{stopped}
use Rattle.cg_inputs.specs.Readings.{ReadsKernel}
use Rattle.cg_inputs.proofs.Answered.{given_answer, refused_answer}
use Rattle.cg_inputs.proofs.Readings.{kernel_told}
use Rattle.cg_command_run.specs.Turns.{IsTurning, IsTurns}
use Rattle.cg_command_run.proofs.turning.turns.Goals as goal

pub returns-in_err-kernel : goal.returns-in_err-kernel
returns-in_err-kernel c =
    let file = file_of c.args.file.now in
    let s = c.in_err-kernel.field-0.0 in
    stopped (IsTurns c.args.turns file) s _ c.from_residual.ensures.1 (refused_answer (ReadsKernel file) (IsTurning c.args.turns) s (kernel_told file s c.in_err-kernel.ensures.refused))

pub returns : goal.returns
returns c = given_answer (ReadsKernel (file_of c.args.file.now)) (IsTurning c.args.turns) c.in_ok-kernel.kernel c.turned.result c.in_ok-kernel.ensures.given c.turned.ensures
