use Rattle.cg_bound_recurrence.proofs.Decided.{way_cycle_or_none}
use Rattle.cg_bound_recurrence.proofs.laws.always_decided.Goals as goal

pub returns : goal.returns
returns c = way_cycle_or_none
