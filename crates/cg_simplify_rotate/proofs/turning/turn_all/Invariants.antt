use Rattle.cg_simplify_rotate.specs.Turning.{IsRotated}
use Rattle.cg_simplify_rotate.proofs.turning.turn_all.Given as goal

abbrev pub invariant-loop-v : goal.invariant-loop-v
invariant-loop-v l = IsRotated l.fn.nodes l.nodes l.changed
