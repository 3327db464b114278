use Rattle.std.proofs.Common.{◌≡◌, ℕ, ◌<◌, true, Some}
use Rattle.std.specs.Prelude.{slice_get}
use Rattle.cg_model.specs.declared.kernel.Operand.{Operand}
use Rattle.cg_simplify.specs.Live.{is_fed}
use Rattle.cg_simplify.proofs.live.are_fed.Given as goal

abbrev pub invariant-loop-place : goal.invariant-loop-place
invariant-loop-place l = (p : ℕ) (o : Operand) → p < l.place → slice_get l.operands p ≡ Some o → is_fed l.marks o ≡ true
