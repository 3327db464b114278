use Rattle.cg_trial.proofs.Built.{trial_enough}
use Rattle.cg_trial.proofs.laws.enough.Goals as goal

pub returns : goal.returns
returns c = trial_enough
