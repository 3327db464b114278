use Rattle.cg_bound_registers.proofs.Intervals.{rises}
use Rattle.cg_bound_registers.proofs.laws.rises.Goals as goal

pub returns : goal.returns
returns c = rises
