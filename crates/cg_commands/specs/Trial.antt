-- `trial SEED`.
use Rattle.std.specs.Prelude.{◌≡◌, ℕ}
use Rattle.cg_effects.specs.declared.outcome.Status.TheVariants.{Done}
use Rattle.cg_files.specs.Held.{Appends}
use Rattle.cg_effects.specs.Outcome.{Bytes, Outcome}
use Rattle.cg_effects.specs.Ends.{Moment}
use Rattle.cg_effects.specs.Refusals.{reports}
use Rattle.cg_command_judge.specs.Emit.{RunsMapping}
use Rattle.cg_command_run.specs.Report.{IsTrial, trial_mapped, trial_report}
use Rattle.cg_command_run.specs.Laws.{LeavesSame}

-- the report of the seed's trial
pub record IsTrialOf (seed : ℕ) (o : Outcome) : Type 0 where
  pub report : Bytes
  pub is_trial : IsTrial seed report
  pub outcome : o ≡ reports Done report

-- Done: the bits run the mapping of the seed's kernel over the hub, both runs leave the same image, and that was
-- reported
pub record IsTrialRun (seed : ℕ) (before after : Moment) : Type 0 where
  pub bits : Bytes
  pub runs : RunsMapping (trial_mapped seed) bits
  pub same : LeavesSame seed
  pub put : Appends before.taken (trial_report seed bits) after.taken
