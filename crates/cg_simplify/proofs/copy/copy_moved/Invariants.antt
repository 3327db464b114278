use Rattle.std.proofs.Common.{◌≡◌, map, take}
use Rattle.cg_simplify.specs.Live.{moved_node}
use Rattle.cg_simplify.proofs.copy.copy_moved.Given as goal

abbrev pub invariant-loop-node : goal.invariant-loop-node
invariant-loop-node l = l.copies.items ≡ map (moved_node l.numbers) (take l.node-index l.nodes)
