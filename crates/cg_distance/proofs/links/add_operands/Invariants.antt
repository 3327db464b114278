use Rattle.cg_model.specs.Kernel.{size}
use Rattle.cg_distance.specs.Leaving.{HasLinks, Seen}
use Rattle.cg_distance.proofs.links.add_operands.Given as goal

abbrev pub invariant-loop-place : goal.invariant-loop-place
invariant-loop-place l = HasLinks (size l.kernel) (Seen l.kernel l.to l.place 0) l.lists
