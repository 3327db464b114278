use Rattle.cg_overlap.proofs.Canonical.{canonical}
use Rattle.cg_overlap.proofs.configures.Goals as goal

pub returns : goal.returns
returns c = λ A K M good legal. canonical A K M good legal legal.shape.places
