-- What is done for a plan or a choice gives its word.
use Rattle.std.proofs.Common.{◌≡◌, ◌&&◌, ℕ, Bool, true, false, nat_lt, not, List, Option, Some, refl, sym, ap, ◌∙◌}
use Rattle.std.specs.Prelude.{IfOk, Result}
use Rattle.std.specs.declared.alloc.AllocError.{AllocError}
use Rattle.cg_word.specs.declared.op.Op.{Op}
use Rattle.cg_word.specs.declared.op.Op.TheVariants as ops
use Rattle.cg_word.specs.Word.{apply_of, one_if}
use Rattle.cg_c_values.specs.declared.plan.Choice.TheVariants as choices
use Rattle.cg_c_values.specs.Plans.{Again, Carried, Choice, Chooses, Gives, Operand, Outwards, Plan, Stands, choice_word, chosen_word, operand_word, plan_word}
use Rattle.cg_c_values.specs.Values.{Value, Extends, Fits, Means, Moment, Words, holds}
use Rattle.cg_c_values.proofs.Comparing.{negation_is, truth_is}
use Rattle.cg_c_values.proofs.Known.{extends_further, fits_before, same_means}

-- a value's word in a later list
later : (s t : List Value) (v : ℕ) (f : Words → ℕ) (x : Moment) (E : Words) → Extends s t → Means s v (λ x E. f E) → Fits t x E → E v ≡ f E
later s t v f x E h m fits = m.is x E (fits_before s t x E h fits)

-- ---- plans

pub stands_done : (s t : List Value) (p : Plan) (op : Op) (a b : ℕ) (o : Operand) (r : Result ℕ AllocError) → p ≡ Stands op a o → Means s b (λ x E. operand_word E o) → Extends s t
    → IfOk r (λ v. Means t v (λ x E. apply_of op (E a) (E b) 0)) → IfOk r (λ v. Means t v (λ x E. plan_word E p))
stands_done s t p op a b o r e m h =
    same_means t r (λ x E. apply_of op (E a) (E b) 0) (λ x E. plan_word E p)
    (λ x E f. ap (λ z. apply_of op (E a) z 0) (later s t b (λ E. operand_word E o) x E h m f) ∙ ap (plan_word E) (sym e))

pub again_done : (s u t : List Value) (p : Plan) (op : Op) (a b : ℕ) (o q : Operand) (r : Result ℕ AllocError) → p ≡ Again op o q → Means s a (λ x E. operand_word E o) → Extends s u
    → Means u b (λ x E. operand_word E q) → Extends u t → IfOk r (λ v. Means t v (λ x E. apply_of op (E a) (E b) 0)) → IfOk r (λ v. Means t v (λ x E. plan_word E p))
again_done s u t p op a b o q r e m h n k =
    same_means t r (λ x E. apply_of op (E a) (E b) 0) (λ x E. plan_word E p)
    (λ x E f.
    ap (λ z. apply_of op z (E b) 0) (later s t a (λ E. operand_word E o) x E (extends_further s u t h k) m f)
    ∙ ap (λ z. apply_of op (operand_word E o) z 0) (later u t b (λ E. operand_word E q) x E k n f) ∙ ap (plan_word E) (sym e))

pub outwards_done : (s u t : List Value) (p : Plan) (a b w sum number : ℕ) (r : Result ℕ AllocError) → p ≡ Outwards a b w → Means s sum (λ x E. apply_of ops.Add (E a) (E b) 0) → Extends s u
    → Means u number (λ x E. w) → Extends u t → IfOk r (λ v. Means t v (λ x E. apply_of ops.Add (E sum) (E number) 0)) → IfOk r (λ v. Means t v (λ x E. plan_word E p))
outwards_done s u t p a b w sum number r e m h n k =
    same_means t r (λ x E. apply_of ops.Add (E sum) (E number) 0) (λ x E. plan_word E p)
    (λ x E f.
    ap (λ z. apply_of ops.Add z (E number) 0) (later s t sum (λ E. apply_of ops.Add (E a) (E b) 0) x E (extends_further s u t h k) m f)
    ∙ ap (λ z. apply_of ops.Add (apply_of ops.Add (E a) (E b) 0) z 0) (later u t number (λ E. w) x E k n f) ∙ ap (plan_word E) (sym e))

pub carried_done : (s t : List Value) (p : Plan) (carried a b sum : ℕ) (r : Result ℕ AllocError) → p ≡ Carried carried a b → Means s sum (λ x E. apply_of ops.Add (E a) (E b) 0) → Extends s t
    → IfOk r (λ v. Means t v (λ x E. apply_of ops.Add (E carried) (E sum) 0)) → IfOk r (λ v. Means t v (λ x E. plan_word E p))
carried_done s t p carried a b sum r e m h =
    same_means t r (λ x E. apply_of ops.Add (E carried) (E sum) 0) (λ x E. plan_word E p)
    (λ x E f. ap (λ z. apply_of ops.Add (E carried) z 0) (later s t sum (λ E. apply_of ops.Add (E a) (E b) 0) x E h m f) ∙ ap (plan_word E) (sym e))

pub planned_done : (s t : List Value) (p : Plan) (word : Words → ℕ) (r : Result ℕ AllocError) → Gives s p word → Extends s t → IfOk r (λ v. Means t v (λ x E. plan_word E p))
    → IfOk r (λ v. Means t v (λ x E. word E))
planned_done s t p word r g h = same_means t r (λ x E. plan_word E p) (λ x E. word E) (λ x E f. g.is x E (fits_before s t x E h f))

-- ---- choices

module _ (s t : List Value) (choice : Choice) (c a b : ℕ) (chooses : Chooses s choice c a b) (r : Result ℕ AllocError) where
  pub planned_chosen : (p : Plan) → choice ≡ choices.Planned p → Extends s t → IfOk r (λ v. Means t v (λ x E. plan_word E p)) → IfOk r (λ v. Means t v (λ x E. chosen_word E c a b))
  planned_chosen p e h =
      same_means t r (λ x E. plan_word E p) (λ x E. chosen_word E c a b)
      (λ x E f. ap (choice_word E c a b) (sym e) ∙ chooses.is x E (fits_before s t x E h f))

  pub again_chosen : (d k l : ℕ) → choice ≡ choices.Again d k l → Extends s t → IfOk r (λ v. Means t v (λ x E. apply_of ops.Select (E d) (E k) (E l)))
      → IfOk r (λ v. Means t v (λ x E. chosen_word E c a b))
  again_chosen d k l e h =
      same_means t r (λ x E. apply_of ops.Select (E d) (E k) (E l)) (λ x E. chosen_word E c a b)
      (λ x E f. ap (choice_word E c a b) (sym e) ∙ chooses.is x E (fits_before s t x E h f))

  pub step_chosen : (u w z : List Value) (op : Op) (first d k l by : ℕ) (o q : Operand) → choice ≡ choices.Step op first d o q → Extends s u → Means u k (λ x E. operand_word E o)
      → Extends u w → Means w l (λ x E. operand_word E q) → Extends w z → Means z by (λ x E. apply_of ops.Select (E d) (E k) (E l)) → Extends z t
      → IfOk r (λ v. Means t v (λ x E. apply_of op (E first) (E by) 0)) → IfOk r (λ v. Means t v (λ x E. chosen_word E c a b))
  step_chosen u w z op first d k l by o q e h m i n j g y =
      let later_w = extends_further w z t j y in
      let later_u = extends_further u w t i later_w in
      same_means t r (λ x E. apply_of op (E first) (E by) 0) (λ x E. chosen_word E c a b)
      (λ x E f.
      ap (λ z. apply_of op (E first) z 0)
      (later z t by (λ E. apply_of ops.Select (E d) (E k) (E l)) x E y g f
      ∙ ap (λ z. apply_of ops.Select (E d) z (E l)) (later u t k (λ E. operand_word E o) x E later_u m f)
      ∙ ap (λ z. apply_of ops.Select (E d) (operand_word E o) z) (later w t l (λ E. operand_word E q) x E later_w n f))
      ∙ ap (choice_word E c a b) (sym e) ∙ chooses.is x E (fits_before s t x E (extends_further s u t h later_u) f))

-- ---- guards

pub negation_done : (s t : List Value) (v nil : ℕ) (r : Result ℕ AllocError) → Means s nil (λ x E. 0) → Extends s t → IfOk r (λ n. Means t n (λ x E. apply_of ops.Eq (E v) (E nil) 0))
    → IfOk r (λ n. Means t n (λ x E. one_if (not (nat_lt 0 (E v)))))
negation_done s t v nil r m h =
    same_means t r (λ x E. apply_of ops.Eq (E v) (E nil) 0) (λ x E. one_if (not (nat_lt 0 (E v))))
    (λ x E f. ap (λ z. apply_of ops.Eq (E v) z 0) (later s t nil (λ E. 0) x E h m f) ∙ negation_is (E v))

pub truth_done : (s t : List Value) (v nil : ℕ) (r : Result ℕ AllocError) → Means s nil (λ x E. 0) → Extends s t → IfOk r (λ n. Means t n (λ x E. apply_of ops.Ne (E v) (E nil) 0))
    → IfOk r (λ n. Means t n (λ x E. one_if (nat_lt 0 (E v))))
truth_done s t v nil r m h =
    same_means t r (λ x E. apply_of ops.Ne (E v) (E nil) 0) (λ x E. one_if (nat_lt 0 (E v)))
    (λ x E f. ap (λ z. apply_of ops.Ne (E v) z 0) (later s t nil (λ E. 0) x E h m f) ∙ truth_is (E v))

none_holds : (t : Bool) (x z : ℕ) → x ≡ 0 → z ≡ 0 → nat_lt 0 z ≡ (t && nat_lt 0 x)
none_holds true x z e h = ap (nat_lt 0) (h ∙ sym e)
none_holds false x z e h = ap (nat_lt 0) h

-- a condition that is the constant 0
pub never_done : (s t : List Value) (guard : Option ℕ) (condition nil : ℕ) → Means s condition (λ x E. 0) → Extends s t → Means t nil (λ x E. 0)
    → (x : Moment) (E : Words) → Fits t x E → nat_lt 0 (E nil) ≡ (holds E guard && nat_lt 0 (E condition))
never_done s t guard condition nil m h z x E f = none_holds (holds E guard) (E condition) (E nil) (later s t condition (λ E. 0) x E h m f) (z.is x E f)

both_hold : (p q : Bool) → nat_lt 0 (apply_of ops.And (one_if p) (one_if q) 0) ≡ (p && q)
unfolding apply_of
both_hold true true = refl
both_hold true false = refl
both_hold false true = refl
both_hold false false = refl

pub both_done : (u w t : List Value) (guard : Option ℕ) (g condition first second v : ℕ) → guard ≡ Some g → Means u first (λ x E. one_if (nat_lt 0 (E g))) → Extends u w
    → Means w second (λ x E. one_if (nat_lt 0 (E condition))) → Extends w t → Means t v (λ x E. apply_of ops.And (E first) (E second) 0)
    → (x : Moment) (E : Words) → Fits t x E → nat_lt 0 (E v) ≡ (holds E guard && nat_lt 0 (E condition))
both_done u w t guard g condition first second v e m h n k l x E f =
    ap (nat_lt 0)
    (l.is x E f ∙ ap (λ z. apply_of ops.And z (E second) 0) (later u t first (λ E. one_if (nat_lt 0 (E g))) x E (extends_further u w t h k) m f)
    ∙ ap (λ z. apply_of ops.And (one_if (nat_lt 0 (E g))) z 0) (later w t second (λ E. one_if (nat_lt 0 (E condition))) x E k n f))
    ∙ both_hold (nat_lt 0 (E g)) (nat_lt 0 (E condition)) ∙ ap (λ o. holds E o && nat_lt 0 (E condition)) (sym e)
