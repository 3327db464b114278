use Rattle.std.proofs.Common.{◌∙◌}
use Rattle.cg_trial.proofs.Offered.{all_added}
use Rattle.cg_trial.proofs.hardware.unit_ops.Goals as goal

pub returns : goal.returns
returns c = c.set_of.ensures ∙ all_added
