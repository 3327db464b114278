use Rattle.cg_hub.proofs.Legal.{hub_legal}
use Rattle.cg_hub.proofs.laws.legal.Goals as goal

pub returns : goal.returns
returns c = hub_legal
