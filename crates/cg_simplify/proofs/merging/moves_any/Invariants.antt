use Rattle.std.proofs.Common.{◌≡◌, map, take}
use Rattle.cg_simplify.specs.Live.{moved_node}
use Rattle.cg_simplify.proofs.merging.moves_any.Given as goal

abbrev pub invariant-loop-node : goal.invariant-loop-node
invariant-loop-node l = map (moved_node l.into) (take l.node-index l.nodes) ≡ take l.node-index l.nodes
