use Rattle.std.proofs.Common.{◌∙◌, ap}
use Rattle.cg_check.specs.Legal.{Mapped}
use Rattle.cg_command_run.proofs.Trials.{fits_of, trial_of}
use Rattle.cg_command_run.proofs.trial_summary.trial_on.Goals as goal

pub report_on-requires-clause-fits : goal.report_on-requires-clause-fits
report_on-requires-clause-fits c = fits_of _ _ (ap (λ (m : Mapped). m.arch) c.in_ok-mapping.ensures ∙ c.requires.arch) c.requires.image

pub returns : goal.returns
returns c = trial_of c.args.seed _ _ _ _ _ c.requires.arch c.requires.kernel c.requires.image c.in_ok-mapping.ensures c.in_ok-text.ensures
