-- Three nodes named a, b and c, without operands, are the nodes of a kernel.
use Rattle.std.proofs.Common.{◌≡◌, ℕ, zero, suc, ◌+◌, ◌<◌, List, [], ◌∷◌, length, Some, true, refl, ap, sym, ◌∙◌, subst, arith}
use Rattle.std.specs.Prelude.{slice_get, slice_index}
use Rattle.cg_word.specs.declared.op.Op.{Op}
use Rattle.cg_word.specs.declared.op.Op.TheVariants.{Iter}
use Rattle.cg_word.specs.Word.{arity, is_output}
use Rattle.cg_model.specs.declared.kernel.Node.{Node}
use Rattle.cg_model.specs.declared.kernel.Operand.{Operand}
use Rattle.cg_model.specs.Kernel.{HasOperand, HasOrder, IsKernel, Kernel, node}
use Rattle.cg_model.specs.Limits.{longest_node_name}
use Rattle.cg_model.specs.Names.{IsName, begins_name, within_name}
use Rattle.cg_c_order.specs.Accesses.{kernel_with}

abbrev pub counter : List ℕ → Node
counter name = record { name = name; op = Iter; port = 0; operands = [] }

abbrev pub three : List Node
three = counter (97 ∷ []) ∷ counter (98 ∷ []) ∷ counter (99 ∷ []) ∷ []

abbrev K : Kernel
K = kernel_with three []

bare : (v : ℕ) → (node K v).operands ≡ []
bare zero = refl
bare (suc zero) = refl
bare (suc (suc zero)) = refl
bare (suc (suc (suc v))) = refl

no_operand : (v p : ℕ) (o : Operand) → HasOperand K v p o → ⊥
no_operand v p o h = let h' : slice_get [] p ≡ Some o = subst (λ (os : List Operand). slice_get os p ≡ Some o) (bare v) h in cc

no_order : (e u v d : ℕ) → HasOrder K e u v d → ⊥
no_order e u v d h = cc

operation : (v : ℕ) → v < 3 → (node K v).op ≡ Iter
operation zero l = refl
operation (suc zero) l = refl
operation (suc (suc zero)) l = refl
operation (suc (suc (suc v))) l = absurd (omega arith)

portless : (v : ℕ) → (node K v).port ≡ 0
portless zero = refl
portless (suc zero) = refl
portless (suc (suc zero)) = refl
portless (suc (suc (suc v))) = refl

letter : (v : ℕ) → v < 3 → (node K v).name ≡ (97 + v) ∷ []
letter zero l = refl
letter (suc zero) l = refl
letter (suc (suc zero)) l = refl
letter (suc (suc (suc v))) l = absurd (omega arith)

one_letter : (c : ℕ) → begins_name c ≡ true → within_name c ≡ true → IsName longest_node_name (c ∷ [])
one_letter c b w = record { some = omega arith; short = omega arith; first = b; rest = λ k l. only k l } where
  only : (k : ℕ) → k < 1 → within_name (slice_index (c ∷ []) k) ≡ true
  only zero l = w
  only (suc k) l = absurd (omega arith)

names : (v : ℕ) → v < 3 → IsName longest_node_name (node K v).name
names zero l = one_letter 97 refl refl
names (suc zero) l = one_letter 98 refl refl
names (suc (suc zero)) l = one_letter 99 refl refl
names (suc (suc (suc v))) l = absurd (omega arith)

apart : (v w : ℕ) → v < 3 → w < 3 → (node K v).name ≡ (node K w).name → v ≡ w
apart v w lv lw e =
    let same : (97 + v) ∷ [] ≡ (97 + w) ∷ [] = sym (letter v lv) ∙ e ∙ letter w lw in
    let sums : 97 + v ≡ 97 + w = cc in
    omega arith

no_output : (v : ℕ) → v < 3 → is_output (node K v).op ≡ true → ⊥
no_output v l h = let h' : is_output Iter ≡ true = subst (λ (o : Op). is_output o ≡ true) (operation v l) h in cc

three_valid : IsKernel K
three_valid = record {
  few = omega arith;
  named = record { names = names; apart = apart };
  wired =
      record {
        sources = λ v p u d init l h. absurd (no_operand v p _ h);
        forward = λ v p u init l h. absurd (no_operand v p _ h);
        constants = λ v p c l h. absurd (no_operand v p _ h);
      };
  order =
      record {
        few = omega arith;
        known = λ e u v d h. absurd (no_order e u v d h);
        forward = λ e u v h. absurd (no_order e u v 0 h);
        near = λ e u v d h. absurd (no_order e u v d h);
      };
  arities = λ v l. ap (λ (os : List Operand). length os) (bare v) ∙ sym (ap arity (operation v l));
  valued = λ v p u d init l h. absurd (no_operand v p _ h);
  near = λ v p u d init l h. absurd (no_operand v p _ h);
  inits = λ v p u d init l h. absurd (no_operand v p _ h);
  init_words = λ v p u d k init l h. absurd (no_operand v p _ h);
  one_constant = λ v p q a b l h i. absurd (no_operand v p _ h);
  ports = λ v l. let e = portless v in omega arith;
  no_ports = λ v l h. portless v;
  one_output = λ v w lv lw h i e. absurd (no_output v lv h);
}

pub valid_from : (nodes : List Node) → nodes ≡ three → IsKernel (kernel_with nodes [])
valid_from nodes e = subst (λ z. IsKernel (kernel_with z [])) (sym e) three_valid
