use Rattle.cg_effects.specs.Outcome.{file_of}
use Rattle.cg_cause.proofs.Allowed.{stopped}
use Rattle.cg_inputs.specs.Readings.{ReadsArray, ReadsImage}
use Rattle.cg_inputs.proofs.Answered.{refused_answer}
use Rattle.cg_inputs.proofs.Both.{first_refused, next_answer}
use Rattle.cg_command_run.specs.Run.{IsRun, ReadsStart, RunsArray, ran}
use Rattle.cg_command_run.proofs.simulating.run.Goals as goal

pub returns-in_err-array : goal.returns-in_err-array
returns-in_err-array c =
    let call = c.args.call.now in
    let arch = file_of call.arch.now in
    let file = file_of call.bits.now in
    let input = file_of call.image.now in
    let s = c.in_err-array.field-0.0 in
    stopped (IsRun call.turns arch file input call.out.now) s _ c.from_residual.ensures.1
    (refused_answer (ReadsStart arch file input) (RunsArray (ran call.turns call.out.now) input.name) s (first_refused (ReadsArray arch file) (λ a. ReadsImage input) s c.in_err-array.ensures.refused))

pub returns : goal.returns
returns c =
    let call = c.args.call.now in
    let input = file_of call.image.now in
    let a = c.in_ok-array.array in
    next_answer (ReadsArray (file_of call.arch.now) (file_of call.bits.now)) (λ a. ReadsImage input) (RunsArray (ran call.turns call.out.now) input.name) (a.arch, a.config) c.in_ok-array.ensures.given c.run_on.result
    c.run_on.ensures
