use Rattle.std.proofs.Common.{◌≡◌, map, take}
use Rattle.cg_kernel.specs.Answer.{node_of}
use Rattle.cg_kernel.proofs.build.nodes_of.Given as goal

abbrev pub invariant-loop-node : goal.invariant-loop-node
invariant-loop-node l = l.nodes.items ≡ map (node_of l.written) (take l.node-index l.list)
