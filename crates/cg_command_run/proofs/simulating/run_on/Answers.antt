use Rattle.std.proofs.Common.{◌≡◌, sym, ap, ◌∙◌}
use Rattle.cg_model.specs.Machine.{cycles, machine_left}
use Rattle.cg_model.specs.Work.{Left}
use Rattle.cg_effects.specs.Outcome.{file_of}
use Rattle.cg_cause.proofs.Allowed.{allows_weaker}
use Rattle.cg_inputs.specs.Readings.{ReadsImage}
use Rattle.cg_inputs.proofs.Answered.{given_answer}
use Rattle.cg_command_run.specs.Run.{RunsFrom, left_outcome, ran}
use Rattle.cg_command_run.proofs.RunAnswers.{image_stopped, run_fits, size_stopped}
use Rattle.cg_command_run.proofs.simulating.run_on.Goals as goal

pub returns-in_err-image : goal.returns-in_err-image
returns-in_err-image c =
    let call = c.args.call.now in
    image_stopped (ran call.turns call.out.now) c.args.arch.now c.args.config.now (file_of call.image.now) c.in_err-image.field-0.0 _ c.from_residual.ensures.1 c.in_err-image.ensures.refused

pub returns-in_err-end : goal.returns-in_err-end
returns-in_err-end c =
    let call = c.args.call.now in
    size_stopped (ran call.turns call.out.now) c.args.arch.now c.args.config.now (file_of call.image.now) c.in_err-end.field-0.0 _ c.from_residual-in_err-end.ensures.1
    c.in_ok-image.image c.in_ok-image.ensures.given c.in_err-end.ensures.large

pub returns : goal.returns
returns c =
    let call = c.args.call.now in
    let input = file_of call.image.now in
    let out = call.out.now in
    let A = c.args.arch.now in
    let C = c.args.config.now in
    let image = c.in_ok-image.image in
    let end = c.in_ok-end.end in
    let made : Left = record { image = end.image; outside = end.outside } in
    let same : made ≡ machine_left A C call.turns image = c.in_ok-end.ensures.left in
    let cycles_is : end.cycles ≡ cycles C call.turns = c.in_ok-end.ensures.cycles in
    given_answer (ReadsImage input) (RunsFrom (ran call.turns out) input.name A C) image c.left_outcome.result c.in_ok-image.ensures.given
    (allows_weaker (λ o. o ≡ left_outcome end.cycles made out) (RunsFrom (ran call.turns out) input.name A C image) c.left_outcome.result
    (λ o e. e ∙ ap (λ k. left_outcome k made out) cycles_is ∙ ap (λ l. left_outcome (cycles C call.turns) l out) same ∙ sym (run_fits A input.name image (ran call.turns out A C image) c.in_ok-end.ensures.fits))
    c.left_outcome.ensures)
