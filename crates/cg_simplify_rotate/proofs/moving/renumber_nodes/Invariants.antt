use Rattle.std.proofs.Common.{◌≡◌, ◌++◌, map, take, drop}
use Rattle.cg_simplify_rotate.specs.Moving.{moved_node}
use Rattle.cg_simplify_rotate.proofs.moving.renumber_nodes.Given as goal

abbrev pub invariant-loop-number : goal.invariant-loop-number
invariant-loop-number l = l.nodes ≡ map (moved_node l.u l.v) (take l.number l.fn.nodes) ++ drop l.number l.fn.nodes
