use Rattle.std.proofs.Common.{◌≡◌, ℕ, ◌<◌, Some}
use Rattle.std.specs.Prelude.{slice_get}
use Rattle.cg_model.specs.declared.kernel.Operand.{Operand}
use Rattle.cg_simplify.specs.Merging.{IsSame}
use Rattle.cg_simplify.proofs.text.are_same.Given as goal

abbrev pub invariant-loop-place : goal.invariant-loop-place
invariant-loop-place l =
    (p : ℕ) (a b : Operand) → p < l.place → slice_get l.xs p ≡ Some a → slice_get l.ys p ≡ Some b → IsSame l.like l.m a l.n b
