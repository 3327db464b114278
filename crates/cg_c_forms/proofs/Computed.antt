-- The words of leaves and of operations on known values.
use Rattle.std.proofs.Common.{◌≡◌, ℕ, ◌/◌, ◌%◌, ◌<◌, List, Result, Ok, Err, length, subst, ap, ◌∙◌}
use Rattle.std.specs.Result.{IfOk}
use Rattle.cg_word.specs.declared.op.Op.{Op}
use Rattle.cg_word.specs.Word.{apply_of}
use Rattle.cg_c_values.specs.declared.value.Value.{Value}
use Rattle.cg_c_values.specs.declared.value.Value.TheVariants.{Turn, Quotient, Digit}
use Rattle.cg_c_values.specs.Values.{Fits, IsWordOf, Means, Moment, Words, value_at}
use Rattle.cg_c_forms.specs.Remade.{MeansIn}

-- ---- leaves

-- the word of a value that was added as it is
pub word_of : (values : List Value) (v : ℕ) (value : Value) (x : Moment) (E : Words) → v < length values → value_at values v ≡ value → Fits values x E → IsWordOf x E value (E v)
word_of values v value x E l e f = subst (λ (value : Value). IsWordOf x E value (E v)) e (f.is v l)

pub turn_means : (values : List Value) (v : ℕ) → v < length values → value_at values v ≡ Turn → Means values v (λ x E. x.turn)
unfolding IsWordOf
turn_means values v l e = record { within = l; is = λ x E f. word_of values v Turn x E l e f }

pub quotient_means : (values : List Value) (v p : ℕ) → v < length values → value_at values v ≡ Quotient p → Means values v (λ x E. x.turn / p)
unfolding IsWordOf
quotient_means values v p l e = record { within = l; is = λ x E f. word_of values v (Quotient p) x E l e f }

pub digit_means : (values : List Value) (v p r : ℕ) → v < length values → value_at values v ≡ Digit p r → Means values v (λ x E. x.turn / p % r)
unfolding IsWordOf
digit_means values v p r l e = record { within = l; is = λ x E f. word_of values v (Digit p r) x E l e f }

-- ---- operations

pub two_means : {values : List Value} (op : Op) {first second v : ℕ} {a b : Moment → Words → ℕ} → Means values first a → Means values second b →
    Means values v (λ x E. apply_of op (E first) (E second) 0) → Means values v (λ x E. apply_of op (a x E) (b x E) 0)
two_means op {first} {second} {v} {a} {b} m n h =
    record {
      within = h.within;
      is = λ x E f. h.is x E f ∙ ap (λ y. apply_of op y (E second) 0) (m.is x E f) ∙ ap (λ y. apply_of op (a x E) y 0) (n.is x E f);
    }

-- ---- in the turns

-- what a value means in each turn it means in the first ones, where it is said otherwise
pub means_in : {turns : ℕ} {values : List Value} {v : ℕ} {a b : ℕ → ℕ} → ((t : ℕ) → t < turns → a t ≡ b t) → Means values v (λ x E. a x.turn) → MeansIn turns values v b
means_in e m = record { within = m.within; is = λ x E l f. m.is x E f ∙ e x.turn l }

pub same_in : {turns : ℕ} {values : List Value} {v : ℕ} {a b : ℕ → ℕ} → ((t : ℕ) → t < turns → a t ≡ b t) → MeansIn turns values v a → MeansIn turns values v b
same_in e m = record { within = m.within; is = λ x E l f. m.is x E l f ∙ e x.turn l }

pub two_means_in : {turns : ℕ} {values : List Value} (op : Op) {first second v : ℕ} {a b : ℕ → ℕ} → MeansIn turns values first a → MeansIn turns values second b →
    Means values v (λ x E. apply_of op (E first) (E second) 0) → MeansIn turns values v (λ t. apply_of op (a t) (b t) 0)
two_means_in op {first} {second} {v} {a} {b} m n h =
    record {
      within = h.within;
      is = λ x E l f. h.is x E f ∙ ap (λ y. apply_of op y (E second) 0) (m.is x E l f) ∙ ap (λ y. apply_of op (a x.turn) y 0) (n.is x E l f);
    }

-- ---- results

-- what is known of a value that was added as it is
pub added : {X : Type 0} (values : List Value) {value : Value} (P : ℕ → Type 0) (r : Result ℕ X) → ((v : ℕ) → v < length values → value_at values v ≡ value → P v) →
    IfOk r (λ v. v < length values) → IfOk r (λ v. value_at values v ≡ value) → IfOk r P
added values P (Ok v) f l e = f v l e
added values P (Err _) f l e = tt
