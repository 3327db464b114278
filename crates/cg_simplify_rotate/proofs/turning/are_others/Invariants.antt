use Rattle.std.proofs.Common.{◌≡◌, ℕ, ◌<◌, List, Some}
use Rattle.std.specs.Prelude.{slice_get}
use Rattle.cg_model.specs.declared.kernel.Operand.TheVariants.{Edge}
use Rattle.cg_simplify_rotate.proofs.turning.are_others.Given as goal

abbrev pub invariant-loop-number : goal.invariant-loop-number
invariant-loop-number l =
    (p d : ℕ) (init : List ℕ) → p < l.number → slice_get l.operands p ≡ Some (Edge l.u d init) → p ≡ l.place
