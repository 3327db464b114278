use Rattle.cg_model.specs.Kernel.{size}
use Rattle.cg_recur.specs.Listed.{AreSoFar}
use Rattle.cg_recur.proofs.list.add_order.Given as goal

abbrev pub invariant-loop-number : goal.invariant-loop-number
invariant-loop-number l = AreSoFar l.arch l.kernel (size l.kernel) 0 l.number l.list.names.items l.list.edges.items
