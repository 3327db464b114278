-- New values of values that aren't loads.
use Rattle.std.proofs.Common.{◌≡◌, ℕ, ◌/◌, ◌%◌, ◌<◌, List, length, ap, ◌∙◌, inl, inr}
use Rattle.std.proofs.Math.Nat.{div-one, mod-eq_of_lt}
use Rattle.std.specs.Prelude.{◌⊎◌}
use Rattle.cg_word.specs.declared.op.Op.{Op}
use Rattle.cg_word.specs.declared.op.Op.TheVariants as ops
use Rattle.cg_word.specs.Word.{apply_of}
use Rattle.cg_c_values.specs.declared.value.Value.{Value}
use Rattle.cg_c_values.specs.declared.value.Value.TheVariants.{Const, Turn, Quotient, Digit, Carried, Input, Two, Select}
use Rattle.cg_c_values.specs.Values.{IsWordOf, Means, value_at}
use Rattle.cg_c_forms.specs.Forms.{renamed}
use Rattle.cg_c_forms.specs.Remade.{IsNew, MeansIn}
use Rattle.cg_c_forms.proofs.Computed.{word_of}

pub constant_new : (old new : List Value) (turns : ℕ) (map : List ℕ) (word v : ℕ) → Means new v (λ x E. word) → IsNew old new turns map (Const word) v
unfolding IsWordOf
constant_new old new turns map word v m =
    record { within = m.within; is = λ x E l f. m.is x E f; load = λ array version address guard e. absurd (cc) }

pub digit_new : (old new : List Value) (turns : ℕ) (map : List ℕ) (p r v : ℕ) → MeansIn turns new v (λ t. t / p % r) → IsNew old new turns map (Digit p r) v
unfolding IsWordOf
digit_new old new turns map p r v m =
    record { within = m.within; is = λ x E l f. m.is x E l f; load = λ array version address guard e. absurd (cc) }

-- the number of the turn is its digit of radix `turns`
pub turn_new : (old new : List Value) (turns : ℕ) (map : List ℕ) (v : ℕ) → MeansIn turns new v (λ t. t / 1 % turns) → IsNew old new turns map Turn v
unfolding IsWordOf
turn_new old new turns map v m =
    record {
      within = m.within;
      is = λ x E l f. m.is x E l f ∙ ap (λ z. z % turns) (div-one x.turn) ∙ mod-eq_of_lt l;
      load = λ array version address guard e. absurd (cc);
    }

pub quotient_new : (old new : List Value) (turns : ℕ) (map : List ℕ) (p v : ℕ) → MeansIn turns new v (λ t. t / p) → IsNew old new turns map (Quotient p) v
unfolding IsWordOf
quotient_new old new turns map p v m =
    record { within = m.within; is = λ x E l f. m.is x E l f; load = λ array version address guard e. absurd (cc) }

pub two_new : (old new : List Value) (turns : ℕ) (map : List ℕ) (op : Op) (first second v : ℕ) →
    Means new v (λ x E. apply_of op (E (renamed map first)) (E (renamed map second)) 0) → IsNew old new turns map (Two op first second) v
unfolding IsWordOf
two_new old new turns map op first second v m =
    record { within = m.within; is = λ x E l f. m.is x E f; load = λ array version address guard e. absurd (cc) }

pub select_new : (old new : List Value) (turns : ℕ) (map : List ℕ) (condition chosen other v : ℕ) →
    Means new v (λ x E. apply_of ops.Select (E (renamed map condition)) (E (renamed map chosen)) (E (renamed map other))) →
    IsNew old new turns map (Select condition chosen other) v
unfolding IsWordOf
select_new old new turns map condition chosen other v m =
    record { within = m.within; is = λ x E l f. m.is x E f; load = λ array version address guard e. absurd (cc) }

-- ---- leaves that are added as they are

carried_new : (old new : List Value) (turns : ℕ) (map : List ℕ) (number v : ℕ) → v < length new → value_at new v ≡ Carried number → IsNew old new turns map (Carried number) v
unfolding IsWordOf
carried_new old new turns map number v l e =
    record { within = l; is = λ x E b f. word_of new v (Carried number) x E l e f; load = λ array version address guard i. absurd (cc) }

input_new : (old new : List Value) (turns : ℕ) (map : List ℕ) (port v : ℕ) → v < length new → value_at new v ≡ Input port → IsNew old new turns map (Input port) v
unfolding IsWordOf
input_new old new turns map port v l e =
    record { within = l; is = λ x E b f. word_of new v (Input port) x E l e f; load = λ array version address guard i. absurd (cc) }

pub leaf_new : (old new : List Value) (turns : ℕ) (map : List ℕ) (value : Value) (v : ℕ) →
    ((x : ℕ) × (value ≡ Carried x)) ⊎ ((x : ℕ) × (value ≡ Input x)) →
    v < length new → value_at new v ≡ value → IsNew old new turns map value v
leaf_new old new turns map value v (inl (n, i)) l e = rw i (carried_new old new turns map n v l (e ∙ i))
leaf_new old new turns map value v (inr (n, i)) l e = rw i (input_new old new turns map n v l (e ∙ i))
