use Rattle.cg_occupancy.proofs.Shown.{are_exact}
use Rattle.cg_occupancy.proofs.laws.exact.Goals as goal

pub returns : goal.returns
returns c = are_exact
