-- Operands with the same words, and a kernel that has them in place of others.
use Rattle.std.proofs.Common.{◌≡◌, ℕ, suc, ◌+◌, ◌-◌, ◌*◌, ◌<◌, ◌≤◌, true, List, [], ◌∷◌, ◌++◌, length, map, Some, None, refl, sym, ap, ◌∙◌, subst, arith, ⊎_elim}
use Rattle.std.specs.Prelude.{slice_get, slice_index}
use Rattle.std.proofs.lemmas.Bool.{cases_lt, le-ltb, lt-ltb}
use Rattle.std.proofs.lemmas.List.{get_or_append_left, get_or-append_right}
use Rattle.cg_word.specs.declared.op.Op.{Op}
use Rattle.cg_word.specs.declared.op.Op.TheVariants.{Const}
use Rattle.cg_word.specs.Word.{apply_of, is_access, is_store}
use Rattle.cg_model.specs.declared.kernel.Operand.{Operand}
use Rattle.cg_model.specs.declared.kernel.Operand.TheVariants.{Const as Constant, Edge}
use Rattle.cg_model.specs.Kernel.{Kernel, HasOperand, IsWired, node, size}
use Rattle.cg_model.specs.Work.{Image, IsImage, value, value_by}
use Rattle.cg_model.specs.Turns.{before, operand, work_of, val}
use Rattle.cg_overlap.proofs.Sequence.{work_is}
use Rattle.cg_simplify_draft.specs.Restates.{Restates}
use Rattle.cg_simplify_draft.proofs.Restating.{does_same}
use Rattle.cg_simplify.specs.Operands.{Exchanges, Gives, IsAlike}

-- the value of a copy is its operand
const_value : (image : Image) (memory : List ℕ) (op : Op) (port turn : ℕ) (args : List ℕ) → op ≡ Const →
    value_by image memory port turn args op ≡ slice_index args 0
unfolding value_by apply_of
const_value image memory op port turn args e = rw e refl

first_of_map : (f : Operand → ℕ) (xs : List Operand) (o : Operand) → slice_get xs 0 ≡ Some o → slice_index (map f xs) 0 ≡ f o
first_of_map f [] o at = let bad : None ≡ Some o = at in absurd (cc)
first_of_map f (x ∷ xs) o at = let same : x ≡ o = cc in ap f same

pub copies : (K : Kernel) (w : ℕ) (o : Operand) → IsWired K → w < size K → (node K w).op ≡ Const → HasOperand K w 0 o → Gives K w o
copies K w o wired l op has image i words =
    ap (value image (before K image (i * size K + w)).memory) (work_is K image wired i w l)
    ∙ const_value image (before K image (i * size K + w)).memory (node K w).op (node K w).port i (map (operand (val K image) i) (node K w).operands) op
    ∙ first_of_map (operand (val K image) i) (node K w).operands o has

pub constants : (K : Kernel) (w d k : ℕ) (init : List ℕ) → length init ≡ d → Gives K w (Constant k) →
    ((j : ℕ) → j < d → slice_index init j ≡ k) → IsAlike K (Edge w d init) (Constant k)
constants K w d k init len gives all image i words =
    ⊎_elim
    (λ a. rw (lt-ltb i d a) (all i a))
    (λ a. rw (le-ltb i d a) (gives image (i - d) words))
    (cases_lt i d)

pub edges : (K : Kernel) (w d u e : ℕ) (init more : List ℕ) → length init ≡ d → Gives K w (Edge u e more) →
    IsAlike K (Edge w d init) (Edge u (d + e) (init ++ more))
edges K w d u e init more len gives image i words =
    ⊎_elim
    (λ (a : i < d).
    rw (lt-ltb i d a, lt-ltb i (d + e) (let z : i < d + e = omega arith in z)) (sym (get_or_append_left init more 0 i (omega (arith, len, a)))))
    (λ (a : d ≤ i).
    ⊎_elim
    (λ (b : i - d < e).
    rw (le-ltb i d a, lt-ltb i (d + e) (let z : i < d + e = omega arith in z)) (gives image (i - d) words ∙ (rw (lt-ltb (i - d) e b) (sym (get_or-append_right init more d i 0 len a)))))
    (λ (b : e ≤ i - d).
    rw (le-ltb i d a, le-ltb i (d + e) (let z : d + e ≤ i = omega arith in z)) (gives image (i - d) words ∙ (rw (le-ltb (i - d) e b) (ap (val K image u) (let z : i - d - e ≡ i - (d + e) = omega arith in z)))))
    (cases_lt (i - d) e))
    (cases_lt i d)

-- two lists whose items a function takes to the same
pub same_maps : (f : Operand → ℕ) (xs ys : List Operand) → length ys ≡ length xs →
    ((p : ℕ) (o q : Operand) → slice_get xs p ≡ Some o → slice_get ys p ≡ Some q → f o ≡ f q) → map f ys ≡ map f xs
same_maps f [] [] e h = refl
same_maps f [] (y ∷ ys) e h = absurd (omega (arith, e))
same_maps f (x ∷ xs) [] e h = absurd (omega (arith, e))
same_maps f (x ∷ xs) (y ∷ ys) e h =
    rw (h 0 x y refl refl, same_maps f xs ys (omega (arith, e)) (λ p o q. h (suc p) o q)) refl

-- a kernel whose nodes have operands with the same words does the same
module _ (K L : Kernel) (x : Exchanges K L) where
  same_work : (image : Image) (v i : ℕ) → IsImage image → v < size L → work_of (node L v) i (val K image) ≡ work_of (node K v) i (val K image)
  same_work image v i words l =
      rw (x.ops v l, x.ports v l, same_maps (operand (val K image) i) (node K v).operands (node L v).operands (x.counts v l) (λ p o q a b. x.alike v p o q l a b image i words)) refl

  pub exchanges_restate : Restates K L
  exchanges_restate =
      record {
        sized = x.sized;
        named = x.named;
        accesses = λ v l is. subst (λ (o : Op). is_access o ≡ true) (x.ops v l) is;
        stores = λ v l is. subst (λ (o : Op). is_store o ≡ true) (x.ops v l) is;
        does = λ image v i words l. does_same (work_of (node L v) i (val K image)) (work_of (node K v) i (val K image)) (same_work image v i words l);
      }
