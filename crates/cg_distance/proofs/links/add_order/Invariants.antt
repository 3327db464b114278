use Rattle.cg_model.specs.Kernel.{size}
use Rattle.cg_distance.specs.Leaving.{HasLinks, Seen}
use Rattle.cg_distance.proofs.links.add_order.Given as goal

abbrev pub invariant-loop-number : goal.invariant-loop-number
invariant-loop-number l = HasLinks (size l.kernel) (Seen l.kernel (size l.kernel) 0 l.number) l.lists
