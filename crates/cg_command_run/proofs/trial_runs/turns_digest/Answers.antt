use Rattle.std.proofs.Common.{◌∙◌, ap}
use Rattle.cg_model.specs.Kernel.{Kernel}
use Rattle.cg_model.specs.Turns.{turns_left}
use Rattle.cg_model.specs.Work.{Left}
use Rattle.cg_command_run.specs.Report as spec
use Rattle.cg_command_run.proofs.trial_runs.turns_digest.Goals as goal

pub returns : goal.returns
returns c =
    c.in_ok-text.ensures
    ∙ ap (λ (x : Left). spec.image_digest x.image) c.in_ok-done.ensures.done
    ∙ ap (λ (K : Kernel). spec.image_digest (turns_left K spec.trial_turns c.args.image.now).image) c.kernel.ensures
