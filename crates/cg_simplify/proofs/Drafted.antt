-- A draft's nodes on the values of the kernel that it restates.
use Rattle.std.proofs.Common.{◌≡◌, ℕ, ◌+◌, ◌*◌, ◌<◌, true, List, map, sym, ap, ◌∙◌, subst, arith}
use Rattle.cg_word.specs.declared.op.Op.{Op}
use Rattle.cg_word.specs.declared.op.Op.TheVariants.{Const}
use Rattle.cg_word.specs.Word.{apply_of, is_access, is_store}
use Rattle.cg_model.specs.declared.kernel.Node.{Node}
use Rattle.cg_model.specs.declared.kernel.Operand.{Operand}
use Rattle.cg_model.specs.declared.kernel.Operand.TheVariants.{Const as Constant}
use Rattle.cg_model.specs.Kernel.{Kernel, IsKernel, node, size}
use Rattle.cg_model.specs.Work.{Image, IsImage, value}
use Rattle.cg_model.specs.Turns.{before, operand, val, work_of}
use Rattle.cg_overlap.proofs.Sequence.{work_is}
use Rattle.cg_simplify_draft.specs.Restates.{DoesAs, Restates}
use Rattle.cg_simplify_draft.specs.Settings.{with_operand, with_text}
use Rattle.cg_simplify_draft.proofs.Drafts.{each_operand, same_name, same_op, sized}
use Rattle.cg_simplify_draft.proofs.Restating.{does_itself, does_twice}
use Rattle.cg_simplify_draft.proofs.Written.{each_node, text_name, text_sized}
use Rattle.cg_simplify_facts.specs.Suits.{AreTops, IsConstOf, Suits, computes, word_of}
use Rattle.cg_simplify_facts.proofs.Known.{computed, word_at}
use Rattle.cg_simplify.specs.Operands.{MayReplace, applied}
use Rattle.cg_simplify.specs.Restating.{MayBecome}
use Rattle.cg_simplify.specs.declared.restating.Text.{Text}

-- a `const`
pub const_applied : (V : ℕ → ℕ → ℕ) (i : ℕ) (n : Node) → n.op ≡ Const → applied V i n ≡ word_of V i n.operands 0
unfolding apply_of
const_applied V i n e = ap (λ (op : Op). apply_of op (word_of V i n.operands 0) (word_of V i n.operands 1) (word_of V i n.operands 2)) e

module _ (tops : List ℕ) (K D : Kernel) (good : IsKernel K) (are : AreTops K tops) (re : Restates K D) (image : Image) (words_are : IsImage image) where
  low : (v : ℕ) → v < size D → v < size K
  low v l = omega (arith, l, re.sized)

  -- the value of a node of the given kernel, by the draft
  pub value_is : (v i : ℕ) → v < size D → computes (node D v).op ≡ true → val K image v i ≡ applied (val K image) i (node D v)
  value_is v i l c =
      let memory = (before K image (i * size K + v)).memory in
      ap (value image memory) (work_is K image good.wired i v (low v l))
      ∙ sym ((re.does image v i words_are l).gives image memory)
      ∙ computed image memory (node D v).port i (map (operand (val K image) i) (node D v).operands) (node D v).op c

  -- the `const` of a constant has the constant
  constant_is : (u k i : ℕ) → IsConstOf D.nodes u k → val K image u i ≡ k
  constant_is u k i is =
      value_is u i is.there (ap computes is.op)
      ∙ const_applied (val K image) i (node D u) is.op
      ∙ word_at (val K image) i (node D u).operands 0 (Constant k) is.constant

  pub suits : Suits D.nodes tops (val K image)
  suits = let s = are image words_are in record { small = s.small; below = s.below; constant = constant_is }

-- a draft of which an operand is replaced restates the kernel
module _ (tops : List ℕ) (D : Kernel) (v p : ℕ) (o : Operand) (may : MayReplace tops D v p o) (K : Kernel) (good : IsKernel K) (are : AreTops K tops) (re : Restates K D) where
  down : (w : ℕ) → w < size (with_operand D v p o) → w < size D
  down w l = omega (arith, l, sized D v p o may.inside)

  does_replaced : (image : Image) (w i : ℕ) → IsImage image → w < size D → DoesAs (work_of (node (with_operand D v p o) w) i (val K image)) (work_of (node D w) i (val K image))
  does_replaced image w i words l =
      each_operand D v p o may.inside (λ (z : ℕ) (n : Node). DoesAs (work_of n i (val K image)) (work_of (node D z) i (val K image)))
      (may.does K image i good are re words)
      (λ z. does_itself (work_of (node D z) i (val K image))) w

  pub set_keeps : Restates K (with_operand D v p o)
  set_keeps =
      record {
        sized = sized D v p o may.inside ∙ re.sized;
        named = λ w l. same_name D v p o may.inside w ∙ re.named w (down w l);
        accesses = λ w l e. re.accesses w (down w l) (subst (λ (op : Op). is_access op ≡ true) (same_op D v p o may.inside w) e);
        stores = λ w l e. re.stores w (down w l) (subst (λ (op : Op). is_store op ≡ true) (same_op D v p o may.inside w) e);
        does = λ image w i words l.
            does_twice (work_of (node (with_operand D v p o) w) i (val K image)) (work_of (node D w) i (val K image)) (work_of (node K w) i (val K image))
            (does_replaced image w i words (down w l)) (re.does image w i words (down w l));
      }

-- a draft of which a node gets another text restates the kernel
module _ (K : Kernel) (tops : List ℕ) (D : Kernel) (v : ℕ) (t : Text) (may : MayBecome K tops D v t) (good : IsKernel K) (are : AreTops K tops) (re : Restates K D) where
  abbrev set : Kernel
  set = with_text D v t.op t.port t.operands

  under : (w : ℕ) → w < size (with_text D v t.op t.port t.operands) → w < size D
  under w l = omega (arith, l, text_sized D v t.op t.port t.operands may.inside)

  does_set : (image : Image) (w i : ℕ) → IsImage image → DoesAs (work_of (node (with_text D v t.op t.port t.operands) w) i (val K image)) (work_of (node D w) i (val K image))
  does_set image w i words =
      each_node D v t.op t.port t.operands may.inside (λ (z : ℕ) (n : Node). DoesAs (work_of n i (val K image)) (work_of (node D z) i (val K image)))
      (may.does image i good are re words)
      (λ z ne. does_itself (work_of (node D z) i (val K image))) w

  access_of : (w : ℕ) → is_access (node (with_text D v t.op t.port t.operands) w).op ≡ true → is_access (node D w).op ≡ true
  access_of = each_node D v t.op t.port t.operands may.inside (λ (z : ℕ) (n : Node). is_access n.op ≡ true → is_access (node D z).op ≡ true) may.accesses (λ z ne e. e)

  store_of : (w : ℕ) → is_store (node (with_text D v t.op t.port t.operands) w).op ≡ true → is_store (node D w).op ≡ true
  store_of = each_node D v t.op t.port t.operands may.inside (λ (z : ℕ) (n : Node). is_store n.op ≡ true → is_store (node D z).op ≡ true) may.stores (λ z ne e. e)

  pub text_keeps : Restates K (with_text D v t.op t.port t.operands)
  text_keeps =
      record {
        sized = text_sized D v t.op t.port t.operands may.inside ∙ re.sized;
        named = λ w l. text_name D v t.op t.port t.operands may.inside w ∙ re.named w (under w l);
        accesses = λ w l e. re.accesses w (under w l) (access_of w e);
        stores = λ w l e. re.stores w (under w l) (store_of w e);
        does = λ image w i words l.
            does_twice (work_of (node (with_text D v t.op t.port t.operands) w) i (val K image)) (work_of (node D w) i (val K image)) (work_of (node K w) i (val K image))
            (does_set image w i words) (re.does image w i words (under w l));
      }
