use Rattle.cg_bound_recurrence.proofs.Equal.{plain}
use Rattle.cg_bound_recurrence.proofs.laws.plain.Goals as goal

pub returns : goal.returns
returns c = plain
