use Rattle.cg_effects.specs.Outcome.{file_of}
use Rattle.cg_cause.proofs.Allowed.{stopped}
use Rattle.cg_inputs.specs.Readings.{ReadsImage, ReadsKernel}
use Rattle.cg_inputs.proofs.Answered.{given_answer, refused_answer}
use Rattle.cg_inputs.proofs.Both.{first_refused, next_refused}
use Rattle.cg_inputs.proofs.Readings.{image_told, kernel_told}
use Rattle.cg_command_run.specs.TurnsOnImage.{IsImaging, IsTurnsOnImage, ReadsTurns}
use Rattle.cg_command_run.proofs.imaging.turns_on_image.Goals as goal

pub returns-in_err-kernel : goal.returns-in_err-kernel
returns-in_err-kernel c =
    let file = file_of c.args.file.now in
    let input = file_of c.args.input.now in
    let s = c.in_err-kernel.field-0.0 in
    stopped (IsTurnsOnImage c.args.turns file input c.args.out.now) s _ c.from_residual.ensures.1
    (refused_answer (ReadsTurns file input) (IsImaging c.args.turns c.args.out.now) s (first_refused (ReadsKernel file) (λ K. ReadsImage input) s (kernel_told file s c.in_err-kernel.ensures.refused)))

pub returns-in_err-image : goal.returns-in_err-image
returns-in_err-image c =
    let file = file_of c.args.file.now in
    let input = file_of c.args.input.now in
    let s = c.in_err-image.field-0.0 in
    stopped (IsTurnsOnImage c.args.turns file input c.args.out.now) s _ c.from_residual-in_err-image.ensures.1
    (refused_answer (ReadsTurns file input) (IsImaging c.args.turns c.args.out.now) s
    (next_refused (ReadsKernel file) (λ K. ReadsImage input) c.in_ok-kernel.kernel s c.in_ok-kernel.ensures.given (image_told input s c.in_err-image.ensures.refused)))

pub returns : goal.returns
returns c =
    given_answer (ReadsTurns (file_of c.args.file.now) (file_of c.args.input.now)) (IsImaging c.args.turns c.args.out.now) (c.in_ok-kernel.kernel, c.in_ok-image.image) c.imaged.result
    (c.in_ok-kernel.ensures.given, c.in_ok-image.ensures.given) c.imaged.ensures
