use Rattle.std.proofs.Common.{◌∙◌, ap}
use Rattle.cg_effects.specs.Outcome.{Outcome}
use Rattle.cg_turns.specs.Done.{left_of}
use Rattle.cg_command_run.proofs.Imaged.{file_with, imaged_by}
use Rattle.cg_command_run.proofs.imaging.imaged.Goals as goal

pub returns : goal.returns
returns c =
    imaged_by c.args.kernel.now c.args.turns c.args.image.now c.args.out.now (left_of c.in_ok-done.done) c.in_ok-done.done.pair _ c.in_ok-done.ensures.done c.in_ok-done.ensures.pair
    (ap (λ (x : Outcome). x.status) c.in_ok-with_file.ensures ∙ c.status_of.ensures)
    (ap (λ (x : Outcome). x.report) c.in_ok-with_file.ensures ∙ c.in_ok-report.ensures)
    (ap (λ (x : Outcome). x.writes) c.in_ok-with_file.ensures ∙ ap (file_with c.args.out.now) c.in_ok-bytes.ensures)
