-- What a valid node asks of its unit.
use Rattle.std.proofs.Common.{◌≡◌, ℕ, ◌<◌, ◌≤◌, List, [], ◌∷◌, length, get_or, refl, arith}
use Rattle.cg_model.specs.declared.kernel.Operand.{Operand}
use Rattle.cg_model.specs.declared.kernel.Operand.TheVariants.{Const as Constant, Edge}
use Rattle.cg_model.specs.Kernel.{Kernel, IsKernel, node, size}
use Rattle.cg_model.specs.Configured.{padded}
use Rattle.cg_overlap.proofs.Emitted.{IsOperand, node_is}
use Rattle.cg_emit.specs.Building.{HasFewWords, HasFewOperands}
use Rattle.cg_word.proofs.Arity.{arity_few}

pub four_words : (ws : List ℕ) → length ws ≤ 4 → get_or ws 0 0 ∷ get_or ws 1 0 ∷ get_or ws 2 0 ∷ get_or ws 3 0 ∷ [] ≡ padded 4 0 ws
four_words [] le = refl
four_words (a ∷ []) le = refl
four_words (a ∷ b ∷ []) le = refl
four_words (a ∷ b ∷ c ∷ []) le = refl
four_words (a ∷ b ∷ c ∷ d ∷ []) le = refl
four_words (a ∷ b ∷ c ∷ d ∷ e ∷ ws) le = absurd (omega arith)

pub three_items : {X : Type 0} (x : X) (xs : List X) → length xs ≤ 3 → get_or xs 0 x ∷ get_or xs 1 x ∷ get_or xs 2 x ∷ [] ≡ padded 3 x xs
three_items x [] le = refl
three_items x (a ∷ []) le = refl
three_items x (a ∷ b ∷ []) le = refl
three_items x (a ∷ b ∷ c ∷ []) le = refl
three_items x (a ∷ b ∷ c ∷ d ∷ xs) le = absurd (omega arith)

few_words : (o : Operand) → IsOperand o → HasFewWords o
few_words (Constant w) is = tt
few_words (Edge u d init) is = let near = is.0 in let long = is.1 in omega arith

-- the nodes of a valid kernel
pub few_operands : (K : Kernel) → IsKernel K → (v : ℕ) → v < size K → HasFewOperands (node K v)
few_operands K good v lt =
    let is = node_is K good v lt in
    let counted = is.operands in
    let few = arity_few (node K v).op in
    record { operands = omega arith; words = λ p o e. few_words o (is.each p o e) }
