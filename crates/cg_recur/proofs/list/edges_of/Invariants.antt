use Rattle.cg_recur.specs.Listed.{AreSoFar}
use Rattle.cg_recur.proofs.list.edges_of.Given as goal

abbrev pub invariant-loop-node : goal.invariant-loop-node
invariant-loop-node l = AreSoFar l.arch l.kernel l.node 0 0 l.list.names.items l.list.edges.items
