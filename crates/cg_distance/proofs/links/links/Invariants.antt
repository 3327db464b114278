use Rattle.cg_model.specs.Kernel.{size}
use Rattle.cg_distance.specs.Leaving.{HasLinks, Seen}
use Rattle.cg_distance.proofs.links.links.Given as goal

abbrev pub invariant-loop-to : goal.invariant-loop-to
invariant-loop-to l = HasLinks (size l.kernel) (Seen l.kernel l.to 0 0) l.lists.items
