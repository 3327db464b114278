use Rattle.std.proofs.Common.{◌≡◌, ◌<◌, ℕ, Some}
use Rattle.std.specs.Prelude.{slice_get}
use Rattle.cg_model.specs.declared.kernel.Operand.TheVariants.{Const as Constant}
use Rattle.cg_simplify.proofs.through.has_constant.Given as goal

abbrev pub invariant-loop-operand : goal.invariant-loop-operand
invariant-loop-operand l = (p c : ℕ) → p < l.operand-index → slice_get l.operands p ≡ Some (Constant c) → ⊥
