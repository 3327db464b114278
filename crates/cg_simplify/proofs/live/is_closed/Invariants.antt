use Rattle.std.proofs.Common.{ℕ, ◌<◌}
use Rattle.cg_simplify.specs.Live.{IsSettled}
use Rattle.cg_simplify.proofs.live.is_closed.Given as goal

abbrev pub invariant-loop-number : goal.invariant-loop-number
invariant-loop-number l = (v : ℕ) → v < l.number → IsSettled l.kernel l.marks v
