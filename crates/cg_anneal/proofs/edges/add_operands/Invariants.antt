use Rattle.std.proofs.Common.{◌≡◌, ◌++◌, take}
use Rattle.cg_walk_spec.specs.State.{edges_among}
use Rattle.cg_anneal.proofs.edges.add_operands.Given as goal

abbrev pub invariant-loop-arg : goal.invariant-loop-arg
invariant-loop-arg l = l.edges.items ≡ l.fn.edges.items ++ edges_among l.node 0 (take l.arg l.operands)
