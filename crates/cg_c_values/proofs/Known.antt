-- What is known of the words of values.
use Rattle.std.proofs.Common.{◌≡◌, ℕ, ◌<◌, ◌≤◌, List, length, refl, sym, ap, ◌∙◌, subst, arith, ⊎_elim}
use Rattle.std.proofs.lemmas.Bool.{cases_lt}
use Rattle.std.specs.Prelude.{IfOk, Ok, Err, Result}
use Rattle.std.specs.declared.alloc.AllocError.{AllocError}
use Rattle.cg_word.specs.declared.op.Op.{Op}
use Rattle.cg_word.specs.declared.op.Op.TheVariants as ops
use Rattle.cg_word.specs.Word.{apply_of}
use Rattle.cg_c_values.specs.Plans.{Commutes}
use Rattle.cg_c_values.specs.Standing.{GivesTruth, IsTruth}
use Rattle.cg_c_values.proofs.Truths.{chosen_truth}
use Rattle.cg_c_values.specs.Values.{Value, Const, Two, Select, Extends, Keeps, Inserts, IsPure, Fits, IsWordOf, Means, Moment, Words, value_at}

-- ---- by what a value is

pub const_means : (s : List Value) (v w : ℕ) → v < length s → value_at s v ≡ Const w → Means s v (λ x E. w)
unfolding IsWordOf
const_means s v w l e = record { within = l; is = λ x E f. subst (λ (value : Value). IsWordOf x E value (E v)) e (f.is v l) }

pub two_means : (s : List Value) (v : ℕ) (op : Op) (a b : ℕ) → v < length s → value_at s v ≡ Two op a b → Means s v (λ x E. apply_of op (E a) (E b) 0)
unfolding IsWordOf
two_means s v op a b l e = record { within = l; is = λ x E f. subst (λ (value : Value). IsWordOf x E value (E v)) e (f.is v l) }

pub select_means : (s : List Value) (v c a b : ℕ) → v < length s → value_at s v ≡ Select c a b → Means s v (λ x E. apply_of ops.Select (E c) (E a) (E b))
unfolding IsWordOf
select_means s v c a b l e = record { within = l; is = λ x E f. subst (λ (value : Value). IsWordOf x E value (E v)) e (f.is v l) }

-- an operation on a value and a constant
pub number_means : (s : List Value) (v : ℕ) (op : Op) (a b w : ℕ) → v < length s → value_at s v ≡ Two op a b → Means s b (λ x E. w) → Means s v (λ x E. apply_of op (E a) w 0)
number_means s v op a b w l e m = record { within = l; is = λ x E f. (two_means s v op a b l e).is x E f ∙ ap (λ z. apply_of op (E a) z 0) (m.is x E f) }

pub negative_means : (s : List Value) (v a b : ℕ) → v < length s → value_at s v ≡ Two ops.Sub a b → Means s a (λ x E. 0) → Means s v (λ x E. apply_of ops.Sub 0 (E b) 0)
negative_means s v a b l e m = record { within = l; is = λ x E f. (two_means s v ops.Sub a b l e).is x E f ∙ ap (λ z. apply_of ops.Sub z (E b) 0) (m.is x E f) }

-- ---- as values are added

pub extends_itself : (s : List Value) → Extends s s
extends_itself s = record { longer = omega arith; kept = λ v l. refl; pure = λ v h l. absurd (omega (arith, h, l)) }

pub extends_further : (s t u : List Value) → Extends s t → Extends t u → Extends s u
extends_further s t u h k =
    let longer = h.longer in
    record {
      longer = omega (arith, longer, k.longer);
      kept = λ v l. k.kept v (omega (arith, longer, l)) ∙ h.kept v l;
      pure = λ v from l.
          ⊎_elim
          (λ (below : v < length t). subst IsPure (sym (k.kept v below)) (h.pure v from below))
          (λ (above : length t ≤ v). k.pure v above l)
          (cases_lt v (length t));
    }

-- in an extended list the old values are kept
pub keeps : {s t : List Value} → Extends s t → Keeps s t
keeps h = record { longer = h.longer; kept = h.kept }

-- so they are where one was inserted
pub inserts_keep : {s t : List Value} {value : Value} → Inserts s t value → Keeps s t
inserts_keep h = record { longer = h.longer; kept = h.kept }

pub extends_by : (s t : List Value) (value : Value) → IsPure value → Inserts s t value → Extends s t
extends_by s t value pure h = record { longer = h.longer; kept = h.kept; pure = λ v from l. subst IsPure (sym (h.one v from l)) pure }

pub fits_kept : (old new : List Value) (x : Moment) (E : Words) → Keeps old new → Fits new x E → Fits old x E
fits_kept old new x E h f =
    let longer = h.longer in
    record {
      word = λ v l. f.word v (omega arith);
      is = λ v l. subst (λ (value : Value). IsWordOf x E value (E v)) (h.kept v l) (f.is v (omega arith));
    }

pub fits_before : (old new : List Value) (x : Moment) (E : Words) → Extends old new → Fits new x E → Fits old x E
fits_before old new x E h f = fits_kept old new x E (keeps h) f

-- where the words of two meanings are the same
pub same_means : (s : List Value) (r : Result ℕ AllocError) (f g : Moment → Words → ℕ) → ((x : Moment) (E : Words) → Fits s x E → f x E ≡ g x E) → IfOk r (λ v. Means s v f) → IfOk r (λ v. Means s v g)
same_means s (Ok v) f g e m = record { within = m.within; is = λ x E h. m.is x E h ∙ e x E h }
same_means s (Err failure) f g e m = tt

-- ---- what was added

pub added_const : (s : List Value) (r : Result ℕ AllocError) (w : ℕ) → IfOk r (λ v. v < length s) → IfOk r (λ v. value_at s v ≡ Const w) → IfOk r (λ v. Means s v (λ x E. w))
added_const s (Ok v) w l e = const_means s v w l e
added_const s (Err f) w l e = tt

pub added_two : (s : List Value) (r : Result ℕ AllocError) (op : Op) (a b : ℕ) → IfOk r (λ v. v < length s) → IfOk r (λ v. value_at s v ≡ Two op a b)
    → IfOk r (λ v. Means s v (λ x E. apply_of op (E a) (E b) 0))
added_two s (Ok v) op a b l e = two_means s v op a b l e
added_two s (Err f) op a b l e = tt

pub added_select : (s : List Value) (r : Result ℕ AllocError) (c a b : ℕ) → IfOk r (λ v. v < length s) → IfOk r (λ v. value_at s v ≡ Select c a b)
    → IfOk r (λ v. Means s v (λ x E. apply_of ops.Select (E c) (E a) (E b)))
added_select s (Ok v) c a b l e = select_means s v c a b l e
added_select s (Err f) c a b l e = tt

-- an operation whose operands are exchanged
pub exchanged_means : (s : List Value) (v : ℕ) (op : Op) (a b : ℕ) → a < length s → b < length s → Commutes op → v < length s → value_at s v ≡ Two op b a → Means s v (λ x E. apply_of op (E a) (E b) 0)
exchanged_means s v op a b la lb h l e = record { within = l; is = λ x E f. (two_means s v op b a l e).is x E f ∙ h (E b) (E a) (f.word b lb) (f.word a la) }

-- a step from a value
pub step_means : (s : List Value) (v : ℕ) (op : Op) (from a b : ℕ) → v < length s → value_at s v ≡ Two op a b → a ≡ from → Means s v (λ x E. apply_of op (E from) (E b) 0)
step_means s v op from a b l e same = record { within = l; is = λ x E f. (two_means s v op a b l e).is x E f ∙ ap (λ u. apply_of op (E u) (E b) 0) same }

pub step_back_means : (s : List Value) (v : ℕ) (op : Op) (from a b : ℕ) → v < length s → a < v → b < v → value_at s v ≡ Two op a b → b ≡ from → Commutes op → Means s v (λ x E. apply_of op (E from) (E a) 0)
step_back_means s v op from a b l la lb e same h =
    record {
      within = l;
      is = λ x E f. (two_means s v op a b l e).is x E f ∙ h (E a) (E b) (f.word a (omega arith)) (f.word b (omega arith)) ∙ ap (λ u. apply_of op (E u) (E a) 0) same;
    }

-- ---- truths

pub const_truth : (s : List Value) (value : Value) (w : ℕ) → value ≡ Const w → w ≤ 1 → GivesTruth s value
unfolding IsWordOf
const_truth s value w e l x E y f h = let same : y ≡ w = subst (λ (z : Value). IsWordOf x E z y) e h in omega arith

pub two_truth : (s : List Value) (value : Value) (op : Op) (a b : ℕ) → value ≡ Two op a b → ((x : Moment) (E : Words) → Fits s x E → apply_of op (E a) (E b) 0 ≤ 1) → GivesTruth s value
unfolding IsWordOf
two_truth s value op a b e l x E y f h = let same : y ≡ apply_of op (E a) (E b) 0 = subst (λ (z : Value). IsWordOf x E z y) e h in let k = l x E f in omega arith

pub select_truth : (s : List Value) (value : Value) (c a b : ℕ) → value ≡ Select c a b → IsTruth s a → IsTruth s b → GivesTruth s value
unfolding IsWordOf
select_truth s value c a b e t u x E y f h =
    let same : y ≡ apply_of ops.Select (E c) (E a) (E b) = subst (λ (z : Value). IsWordOf x E z y) e h in
    subst (λ z. z ≤ 1) (sym same) (chosen_truth (E c) (E a) (E b) (t.is x E f) (u.is x E f))
