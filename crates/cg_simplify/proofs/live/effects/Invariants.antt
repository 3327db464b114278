use Rattle.std.proofs.Common.{◌≡◌, length}
use Rattle.cg_simplify.proofs.live.effects.Given as goal

abbrev pub invariant-loop-number : goal.invariant-loop-number
invariant-loop-number l = length l.marks.items ≡ l.number
