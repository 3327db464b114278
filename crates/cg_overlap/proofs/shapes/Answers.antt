use Rattle.cg_overlap.proofs.Shape.{routed}
use Rattle.cg_overlap.proofs.shapes.Goals as goal

pub returns : goal.returns
returns c = routed
