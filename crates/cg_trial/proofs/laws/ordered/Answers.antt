use Rattle.cg_trial.proofs.Sound.{trial_unaliased}
use Rattle.cg_trial.proofs.laws.ordered.Goals as goal

pub returns : goal.returns
returns c = trial_unaliased
