-- Digits of the turn's number, and the counters of loops.
use Rattle.std.proofs.Common.{◌≡◌, ℕ, ◌+◌, ◌*◌, ◌/◌, ◌%◌, ◌<◌, List, length, ap, ap₂, ◌∙◌, subst, mul_comm, add_comm}
use Rattle.std.proofs.Math.Nat.{mod-add-mod}
use Rattle.std.specs.Prelude.{Result, Ok, Err, IfOk}
use Rattle.cg_word.specs.declared.op.Op.TheVariants as ops
use Rattle.cg_word.specs.Word.{apply_of, words}
use Rattle.cg_c_check.specs.declared.program.Range.{Range}
use Rattle.cg_c_values.specs.declared.value.Value.{Value}
use Rattle.cg_c_values.specs.declared.value.Value.TheVariants.{Digit, Turn}
use Rattle.cg_c_values.specs.Values.{Extends, IsWordOf, Means, value_at}
use Rattle.cg_c_values.proofs.Known.{fits_before}
use Rattle.cg_c_meaning.specs.Meaning.{counter}
use Rattle.cg_c_turn.specs.Nested.{IsOfTurn}

-- two things hold of a result
pub both_ok : {A F : Type 0} (r : Result A F) (P Q : A → Type 0) → IfOk r P → IfOk r Q → IfOk r (λ a. P a × Q a)
both_ok (Ok a) P Q p q = (p, q)
both_ok (Err f) P Q p q = tt

pub digit_is : (new : List Value) (v divisor radix : ℕ) → v < length new → value_at new v ≡ Digit divisor radix → IsOfTurn new v (λ t. t / divisor % radix)
unfolding IsWordOf
digit_is new v divisor radix within is = record {
  within = within;
  is = λ x E f. let h : IsWordOf x E (Digit divisor radix) (E v) = subst (λ (z : Value). IsWordOf x E z (E v)) is (f.is v within) in h;
}

pub turn_is : (new : List Value) (v : ℕ) → v < length new → value_at new v ≡ Turn → IsOfTurn new v (λ t. t)
unfolding IsWordOf
turn_is new v within is = record {
  within = within;
  is = λ x E f. let h : IsWordOf x E Turn (E v) = subst (λ (z : Value). IsWordOf x E z (E v)) is (f.is v within) in h;
}

counter_word : (r : Range) (n : ℕ) → apply_of ops.Add (apply_of ops.Mul n r.step 0) r.first 0 ≡ counter r n
unfolding apply_of
counter_word r n = mod-add-mod (n * r.step) words r.first ∙ ap (λ z. (z + r.first) % words) (mul_comm n r.step) ∙ ap (λ z. z % words) (add_comm (r.step * n) r.first)

pub counter_is : (a b c d e : List Value) (r : Range) (span digit step distance first v : ℕ) → IsOfTurn a digit (λ t. t / span % r.trips) → Extends a b → Means b step (λ x E. r.step) → Extends b c → Means c distance (λ x E. apply_of ops.Mul (E digit) (E step) 0)
    → Extends c d → Means d first (λ x E. r.first) → Extends d e → Means e v (λ x E. apply_of ops.Add (E distance) (E first) 0) → IsOfTurn e v (λ t. counter r (t / span % r.trips))
counter_is a b c d e r span digit step distance first v iteration ab steps bc distances cd firsts de sum = record {
  within = sum.within;
  is = λ x E f.
      let fd = fits_before d e x E de f in
      let fc = fits_before c d x E cd fd in
      let fb = fits_before b c x E bc fc in
      let fa = fits_before a b x E ab fb in
      sum.is x E f
      ∙ ap₂ (λ (y z : ℕ). apply_of ops.Add y z 0) (distances.is x E fc ∙ ap₂ (λ (y z : ℕ). apply_of ops.Mul y z 0) (iteration.is x E fa) (steps.is x E fb)) (firsts.is x E fd)
      ∙ counter_word r (x.turn / span % r.trips);
}
