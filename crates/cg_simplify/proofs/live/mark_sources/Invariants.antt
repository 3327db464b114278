use Rattle.std.proofs.Common.{◌≡◌, length}
use Rattle.cg_simplify.proofs.live.mark_sources.Given as goal

abbrev pub invariant-loop-operand : goal.invariant-loop-operand
invariant-loop-operand l = length l.marks ≡ length l.fn.marks
