use Rattle.cg_bound_recurrence.proofs.Legal.{no_way_cycle}
use Rattle.cg_bound_recurrence.proofs.laws.excludes.Goals as goal

pub returns : goal.returns
returns c = no_way_cycle
