use Rattle.cg_bound_registers.proofs.Intervals.{falls}
use Rattle.cg_bound_registers.proofs.laws.falls.Goals as goal

pub returns : goal.returns
returns c = falls
