use Rattle.std.proofs.Common.{◌≡◌, length}
use Rattle.cg_model.specs.Kernel.{size}
use Rattle.cg_simplify.proofs.live.live.Given as goal

abbrev pub invariant-loop : goal.invariant-loop
invariant-loop l = length l.marks.items ≡ size l.kernel
