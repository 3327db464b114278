use Rattle.std.proofs.Common.{◌≡◌, take}
use Rattle.cg_walk_spec.specs.State.{edges_from}
use Rattle.cg_anneal.proofs.edges.edges_of_kernel.Given as goal

abbrev pub invariant-loop-node : goal.invariant-loop-node
invariant-loop-node l = l.edges.items ≡ edges_from 0 (take l.node l.nodes)
