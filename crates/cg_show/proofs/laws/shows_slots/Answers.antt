use Rattle.cg_show.proofs.Exact.{shows_slots}
use Rattle.cg_show.proofs.laws.shows_slots.Goals as goal

pub returns : goal.returns
returns c = shows_slots
