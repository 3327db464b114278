use Rattle.std.proofs.Common.{◌≡◌, length}
use Rattle.cg_simplify.proofs.live.spread.Given as goal

abbrev pub invariant-loop-back : goal.invariant-loop-back
invariant-loop-back l = length l.marks ≡ length l.nodes
