use Rattle.cg_hub.proofs.Times.{offered}
use Rattle.cg_hub.proofs.laws.offered.Goals as goal

pub returns : goal.returns
returns c = offered
