-- Expressions of one part, whose value is there at once.
use Rattle.std.proofs.Common.{◌≡◌, ℕ, zero, ◌<◌, ◌==◌, ◌&&◌, nat_lt, not, if◌then◌else◌, Bool, true, false, List, [], length, Option, Some, None, slice_get, slice_index, slice_index_or, refl, sym, ap, ap₂, ◌∙◌, arith, subst, eqb→eq}
use Rattle.std.proofs.lemmas.Float.{T_from_true}
use Rattle.std.proofs.lemmas.Bool.{and_parts}
use Rattle.cg_word.specs.Word.{one_if}
use Rattle.cg_c_syntax.specs.declared.statement.Signedness.{Signedness}
use Rattle.cg_c_check.specs.declared.program.Constant.{Constant}
use Rattle.cg_c_check.specs.Rules.{is_true}
use Rattle.cg_c_check.specs.Program.{Expr, Literal, Word, Counter, Input}
use Rattle.cg_c_values.specs.declared.value.Value.{Value}
use Rattle.cg_c_values.specs.declared.value.Value.TheVariants.{Carried, Input as InputValue}
use Rattle.cg_c_values.specs.Values.{Moment, Words, Fits, Extends, IsBelow, IsWordOf, Means, holds, value_at}
use Rattle.cg_c_meaning.specs.Meaning.{State, Context, value}
use Rattle.cg_c_meaning.specs.Typed.{inputs}
use Rattle.cg_c_turn.specs.Draft.{Draft, assigned_in, initial_in}
use Rattle.cg_c_turn.specs.Leads.{Outcome}
use Rattle.cg_c_turn.specs.Stands.{Wanted, ACondition, Agrees, AreReady, IsFormed, Matches, Runs, Translates, begun, word_or, word_in}
use Rattle.cg_c_turn.specs.Pieces.{Enters}
use Rattle.cg_c_turn.proofs.Growing.{steps_with, extends_then, fits_back, extends_refl}
use Rattle.cg_c_turn.proofs.Operating.{agrees_with, lt_one_if, lt_is_true}
use Rattle.cg_c_turn.proofs.Yielding.{yields_pure, translates_by}

abbrev pub with_values : Draft → List Value → Draft
with_values a vs = record a { values = vs }

-- the result of a run, if it has one
abbrev pub result_of : Option (ℕ × State) → ℕ
result_of None = 0
result_of (Some r) = r.0

pub leaf : (a : Draft) (vs : List Value) (e : Expr) (wanted : Wanted) (v r : ℕ) → IsFormed a → Extends a.values vs → r < length vs
    → ((x : Moment) (E : Words) → Fits vs x E → Agrees wanted (E r) (E v))
    → ((x : Moment) (E : Words) (m : Outcome) (c : Context) (s t : State) (w : ℕ) → Runs (with_values a vs) x E → Matches a x E m c s → AreReady x s (inputs e) → value c e s ≡ Some (w, t) → E v ≡ w)
    → Translates a (with_values a vs) [] e wanted r
leaf a vs e wanted v r f kept within agrees claim =
    translates_by a (with_values a vs) [] e wanted r (steps_with a vs f kept) within
    (yields_pure a (with_values a vs) (λ E. Unit {0}) (λ c. value c e) (inputs e) (λ E w. Agrees wanted (E r) w) f (steps_with a vs f kept)
    (λ x E m c s t w runs sound holding h matches ready goes. agrees_with wanted (E r) (E v) w (agrees x E runs.fits) (claim x E m c s t w runs matches ready goes)))

pub literal_is : (a : Draft) (vs : List Value) (k : Constant) (wanted : Wanted) (v r : ℕ) → IsFormed a → Extends a.values vs → Means vs v (λ x E. k.word) → r < length vs
    → ((x : Moment) (E : Words) → Fits vs x E → Agrees wanted (E r) (E v)) → Translates a (with_values a vs) [] (Literal k) wanted r
unfolding value
literal_is a vs k wanted v r f kept means within agrees =
    leaf a vs (Literal k) wanted v r f kept within agrees (λ x E m c s t w runs matches ready goes. means.is x E runs.fits ∙ ap result_of goes)

assigned_word : (x : Moment) (E : Words) (a : Draft) (n v : ℕ) → assigned_in a n ≡ Some v → word_in x E a n ≡ E v
assigned_word x E a n v e = ap (word_or E (begun x a n)) e

pub word_is : (a : Draft) (n v : ℕ) (s : Signedness) (wanted : Wanted) (r : ℕ) → IsFormed a → assigned_in a n ≡ Some v → r < length a.values
    → ((x : Moment) (E : Words) → Fits a.values x E → Agrees wanted (E r) (E v)) → Translates a a [] (Word n s) wanted r
unfolding value
word_is a n v s wanted r f e within agrees =
    leaf a a.values (Word n s) wanted v r f (extends_refl a.values) within agrees (λ x E m c t u w runs matches ready goes.
    sym (assigned_word x E a n v e) ∙ matches.words n ∙ ap result_of goes)

turn_zero : (n : ℕ) → (n == 0) ≡ true → n ≡ 0
turn_zero n e = eqb→eq n 0 (T_from_true (n == 0) e)

begun_is : (x : Moment) (a : Draft) (n w : ℕ) (b : Bool) → (x.turn == 0) ≡ b → (x.turn ≡ 0 → x.carried n ≡ initial_in a n) → w ≡ x.carried n → w ≡ (if b then initial_in a n else x.carried n)
begun_is x a n w true e first h = h ∙ first (turn_zero x.turn e)
begun_is x a n w false e first h = h

pub carried_is : (a : Draft) (vs : List Value) (n v : ℕ) (s : Signedness) (wanted : Wanted) (r : ℕ) → IsFormed a → assigned_in a n ≡ None → Extends a.values vs → v < length vs → value_at vs v ≡ Carried n → r < length vs
    → ((x : Moment) (E : Words) → Fits vs x E → Agrees wanted (E r) (E v)) → Translates a (with_values a vs) [] (Word n s) wanted r
unfolding value IsWordOf
carried_is a vs n v s wanted r f e kept below is within agrees =
    leaf a vs (Word n s) wanted v r f kept within agrees (λ x E m c t u w runs matches ready goes.
    begun_is x a n (E v) (x.turn == 0) refl (λ z. runs.first z n (v, below, is)) (subst (λ (z : Value). IsWordOf x E z (E v)) is (runs.fits.is v below))
    ∙ sym (ap (word_or E (begun x a n)) e) ∙ matches.words n ∙ ap result_of goes)

pub counter_is : (a : Draft) (depth v : ℕ) (wanted : Wanted) (r : ℕ) → IsFormed a → slice_get a.counters depth ≡ Some v → r < length a.values
    → ((x : Moment) (E : Words) → Fits a.values x E → Agrees wanted (E r) (E v)) → Translates a a [] (Counter depth) wanted r
unfolding value
counter_is a depth v wanted r f e within agrees =
    leaf a a.values (Counter depth) wanted v r f (extends_refl a.values) within agrees (λ x E m c t u w runs matches ready goes.
    sym (ap (word_or E 0) e) ∙ matches.counters depth ∙ ap result_of goes)

pub counter_none : (a : Draft) (vs : List Value) (depth v : ℕ) (wanted : Wanted) (r : ℕ) → IsFormed a → slice_get a.counters depth ≡ None → Extends a.values vs → Means vs v (λ x E. 0) → r < length vs
    → ((x : Moment) (E : Words) → Fits vs x E → Agrees wanted (E r) (E v)) → Translates a (with_values a vs) [] (Counter depth) wanted r
unfolding value
counter_none a vs depth v wanted r f e kept means within agrees =
    leaf a vs (Counter depth) wanted v r f kept within agrees (λ x E m c t u w runs matches ready goes.
    means.is x E runs.fits ∙ sym (ap (word_or E 0) e) ∙ matches.counters depth ∙ ap result_of goes)

pub input_is : (a : Draft) (vs : List Value) (port v : ℕ) (wanted : Wanted) (r : ℕ) → IsFormed a → Extends a.values vs → v < length vs → value_at vs v ≡ InputValue port → r < length vs
    → ((x : Moment) (E : Words) → Fits vs x E → Agrees wanted (E r) (E v)) → Translates a (with_values a vs) [] (Input port) wanted r
unfolding value IsWordOf inputs
input_is a vs port v wanted r f kept below is within agrees =
    leaf a vs (Input port) wanted v r f kept within agrees (λ x E m c t u w runs matches ready goes.
    subst (λ (z : Value). IsWordOf x E z (E v)) is (runs.fits.is v below)
    ∙ ap₂ (λ (ss : List (List ℕ)) (n : ℕ). slice_index (slice_index_or ss port []) n) (sym matches.streams) (sym (ready port (zero, omega arith, refl)))
    ∙ ap result_of goes)

-- ---- conditions

pub enters_other : (a : Draft) (vs ws : List Value) (condition other : ℕ) (g : Option ℕ) → Extends a.values vs → Extends vs ws → Means vs other (λ x E. one_if (not (nat_lt 0 (E condition)))) → IsBelow (length ws) g
    → ((x : Moment) (E : Words) → Fits ws x E → holds E g ≡ (holds E a.guard && nat_lt 0 (E other)))
    → Enters a (record a { values = ws; guard = g }) (λ E w. Agrees ACondition (E condition) w) (λ w. not (is_true w))
enters_other a vs ws condition other g kept more means below both = record {
  rest = refl;
  kept = extends_then a.values vs ws kept more;
  below = below;
  implies = λ x E fits h. (and_parts (holds E a.guard) (nat_lt 0 (E other)) (sym (both x E fits) ∙ h)).0;
  is = λ x E w fits holding agrees.
      both x E fits ∙ ap (λ z. z && nat_lt 0 (E other)) holding ∙ ap (nat_lt 0) (means.is x E (fits_back vs ws x E more fits))
      ∙ lt_one_if (not (nat_lt 0 (E condition))) ∙ ap not (agrees ∙ lt_is_true w);
}
