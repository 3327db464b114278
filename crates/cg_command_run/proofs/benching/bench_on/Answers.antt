use Rattle.std.proofs.Common.{◌≡◌, ℕ, [], ◌∷◌, Ok, sym, ap, ◌∙◌}
use Rattle.cg_model.specs.Machine.{cycles, machine_left}
use Rattle.cg_model.specs.Work.{Left}
use Rattle.cg_effects.specs.Outcome.{Bytes, Outcome, file_of}
use Rattle.cg_effects.specs.declared.outcome.Status.TheVariants.{Done}
use Rattle.cg_testbench.specs.Bench.{bench_text}
use Rattle.cg_command_run.specs.Run.{run_report}
use Rattle.cg_command_run.specs.Bench.{benched}
use Rattle.cg_command_run.proofs.RunAnswers.{image_stopped, run_fits, size_stopped}
use Rattle.cg_command_run.proofs.benching.bench_on.Goals as goal

pub returns-in_err-image : goal.returns-in_err-image
returns-in_err-image c =
    let call = c.args.call.now in
    image_stopped (benched call.turns call.out.now) c.args.arch.now c.args.config.now (file_of call.image.now) c.in_err-image.field-0.0 _ c.from_residual.ensures.1 c.in_err-image.ensures.refused

pub returns-in_err-end : goal.returns-in_err-end
returns-in_err-end c =
    let call = c.args.call.now in
    size_stopped (benched call.turns call.out.now) c.args.arch.now c.args.config.now (file_of call.image.now) c.in_err-end.field-0.0 _ c.from_residual-in_err-end.ensures.1
    c.in_ok-image.image c.in_ok-image.ensures.given c.in_err-end.ensures.large

pub returns : goal.returns
returns c =
    let call = c.args.call.now in
    let input = file_of call.image.now in
    let out = call.out.now in
    let A = c.args.arch.now in
    let C = c.args.config.now in
    let image = c.in_ok-image.image in
    let end = c.in_ok-end.end in
    let made : Left = record { image = end.image; outside = end.outside } in
    let same : made ≡ machine_left A C call.turns image = c.in_ok-end.ensures.left in
    let cycles_is : end.cycles ≡ cycles C call.turns = c.in_ok-end.ensures.cycles in
    let written : ℕ → Left → Bytes → Outcome = λ k l text. record { status = Done; report = run_report k l.outside; writes = record { name = out; bytes = text } ∷ [] } in
    record {
      read = Ok image;
      is_read = c.in_ok-image.ensures.given;
      answer =
          c.in_ok-ended.ensures ∙ ap (λ text. written end.cycles made text) c.in_ok-text.ensures ∙ ap (λ k. written k made (bench_text A C call.turns image made)) cycles_is
          ∙ ap (λ l. written (cycles C call.turns) l (bench_text A C call.turns image l)) same ∙ sym (run_fits A input.name image (benched call.turns out A C image) c.in_ok-end.ensures.fits);
    }
