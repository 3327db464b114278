use Rattle.std.proofs.Common.{◌≡◌, ℕ, ◌<◌, List}
use Rattle.cg_model.specs.declared.kernel.Operand.TheVariants.{Edge}
use Rattle.cg_model.specs.Kernel.{HasOperand}
use Rattle.cg_simplify_rotate.specs.Turning.{kernel_of}
use Rattle.cg_simplify_rotate.proofs.turning.is_only_use.Given as goal

abbrev pub invariant-loop-number : goal.invariant-loop-number
invariant-loop-number l =
    (w q d : ℕ) (init : List ℕ) → w < l.number → HasOperand (kernel_of l.nodes) w q (Edge l.u d init) → (w ≡ l.v) × (q ≡ l.place)
