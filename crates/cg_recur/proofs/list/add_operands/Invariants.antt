use Rattle.cg_recur.specs.Listed.{AreSoFar}
use Rattle.cg_recur.proofs.list.add_operands.Given as goal

abbrev pub invariant-loop-arg : goal.invariant-loop-arg
invariant-loop-arg l = AreSoFar l.arch l.kernel l.node l.arg 0 l.list.names.items l.list.edges.items
