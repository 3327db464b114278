-- Operations on values, by what they give for words.
use Rattle.std.proofs.Common.{◌≡◌, ℕ, zero, suc, ◌-◌, ◌<◌, ◌==◌, ◌&&◌, ◌||◌, nat_lt, not, if◌then◌else◌, Bool, true, false, List, length, refl, sym, ap, ap₂, ◌∙◌, arith, subst}
use Rattle.std.specs.Int.Bits.{or_zero_l}
use Rattle.std.proofs.lemmas.Nat.{le_or_l}
use Rattle.std.proofs.lemmas.Bool.Decides.{nat_tests}
use Rattle.cg_word.specs.Word.{one_if, apply_of}
use Rattle.cg_word.specs.declared.op.Op.{Op}
use Rattle.cg_word.specs.declared.op.Op.TheVariants as ops
use Rattle.cg_c_syntax.specs.declared.expression.Sign.TheVariants as marks
use Rattle.cg_c_syntax.specs.declared.expression.Binary.{Binary}
use Rattle.cg_c_syntax.specs.declared.expression.Binary.TheVariants.{OrElse, AndThen, Or, Xor, And, Equal, Unequal, Less, AtMost, Greater, AtLeast, ShiftLeft, ShiftRight, Add, Sub, Mul}
use Rattle.cg_c_syntax.specs.declared.statement.Signedness.{Signedness}
use Rattle.cg_c_syntax.specs.declared.statement.Signedness.TheVariants.{Signed, Unsigned}
use Rattle.cg_c_check.specs.Rules.{is_conditional, is_true, is_less, extended, two_words, signed_word}
use Rattle.cg_c_values.specs.declared.value.Value.{Value}
use Rattle.cg_c_values.specs.declared.value.Value.TheVariants.{Const}
use Rattle.cg_c_values.specs.Values.{Moment, Words, Fits, Extends, IsWordOf, Means, value_at}
use Rattle.cg_c_meaning.specs.Meaning.{is_settled}
use Rattle.cg_c_turn.specs.Stands.{Wanted, TheWord, ACondition, Agrees}
use Rattle.cg_c_turn.specs.Pieces.{Maps, Joins, side_of, is_direct, less_op, direct_op}
use Rattle.cg_c_turn.proofs.Growing.{extends_then, fits_back}

-- ---- tests

pub lt_one_if : (b : Bool) → nat_lt 0 (one_if b) ≡ b
lt_one_if true = refl
lt_one_if false = refl

lt_not_zero : (n : ℕ) → 0 < n → nat_lt 0 n ≡ is_true n
lt_not_zero n h = grind (arith, nat_tests)

pub lt_is_true : (n : ℕ) → nat_lt 0 n ≡ is_true n
lt_is_true zero = refl
lt_is_true (suc n) = lt_not_zero (suc n) (omega arith)

pub agrees_same : (wanted : Wanted) (p q : ℕ) → p ≡ q → Agrees wanted p q
agrees_same TheWord p q e = e
agrees_same ACondition p q e = ap (nat_lt 0) e

-- what agrees with a word agrees with one that is the same
pub agrees_with : (wanted : Wanted) (p q r : ℕ) → Agrees wanted p q → q ≡ r → Agrees wanted p r
agrees_with wanted p q r h e = subst (Agrees wanted p) e h

-- ---- values

pub const_is : (vs : List Value) (x : Moment) (E : Words) (v word : ℕ) → v < length vs → value_at vs v ≡ Const word → Fits vs x E → E v ≡ word
unfolding IsWordOf
const_is vs x E v word within is f = subst (λ (z : Value). IsWordOf x E z (E v)) is (f.is v within)

-- ---- operators

unequal_is : (b : Bool) → (if b then 0 else 1) ≡ one_if (not b)
unequal_is true = refl
unequal_is false = refl

pub less_is : (s : Signedness) (a b : ℕ) → apply_of (less_op s) a b 0 ≡ one_if (is_less s a b)
unfolding apply_of
less_is Signed a b = refl
less_is Unsigned a b = refl

pub direct_is : (op : Binary) (s : Signedness) (a b : ℕ) → is_direct op ≡ true → apply_of (direct_op op s) a b 0 ≡ two_words op s a b
unfolding apply_of
direct_is Or s a b h = refl
direct_is Xor s a b h = refl
direct_is And s a b h = refl
direct_is Equal s a b h = refl
direct_is Unequal s a b h = unequal_is (a == b)
direct_is Less s a b h = less_is s a b
direct_is ShiftLeft s a b h = refl
direct_is ShiftRight s a b h = refl
direct_is Add s a b h = refl
direct_is Sub s a b h = refl
direct_is Mul s a b h = refl
direct_is OrElse s a b h = absurd (cc)
direct_is AndThen s a b h = absurd (cc)
direct_is Greater s a b h = absurd (cc)
direct_is AtMost s a b h = absurd (cc)
direct_is AtLeast s a b h = absurd (cc)

pub negated_is : (n : ℕ) (b : Bool) → n ≡ one_if b → one_if (not (nat_lt 0 n)) ≡ one_if (not b)
negated_is n b e = ap (λ (z : Bool). one_if (not z)) (ap (nat_lt 0) e ∙ lt_one_if b)

pub never_settled : (op : Binary) (a : ℕ) → is_conditional op ≡ false → is_settled op a ≡ false
never_settled OrElse a h = absurd (cc)
never_settled AndThen a h = absurd (cc)
never_settled op a h = refl

pub word_of_side : (op : Binary) (p a : ℕ) → is_conditional op ≡ false → Agrees (side_of op) p a → p ≡ a
word_of_side op p a h g = subst (λ (z : Bool). Agrees (if z then ACondition else TheWord) p a) h g

-- ---- conditions

or_more : (p q : ℕ) → 0 < p → nat_lt 0 (apply_of ops.Or p q 0) ≡ (nat_lt 0 p || nat_lt 0 q)
unfolding apply_of
or_more p q h = let e = le_or_l p q in grind (arith, nat_tests)

or_positive : (p q : ℕ) → nat_lt 0 (apply_of ops.Or p q 0) ≡ (nat_lt 0 p || nat_lt 0 q)
unfolding apply_of
or_positive zero q = ap (nat_lt 0) (or_zero_l q)
or_positive (suc p) q = or_more (suc p) q (omega arith)

or_cases : (c d : Bool) (u v : Bool) → c ≡ u → (u ≡ false → d ≡ v) → (c || d) ≡ (u || v)
or_cases c d true v e f = ap (λ (z : Bool). z || d) e
or_cases c d false v e f = ap₂ (λ (y z : Bool). y || z) e (f refl)

pub or_is : (p q a b : ℕ) → nat_lt 0 p ≡ nat_lt 0 a → (is_true a ≡ false → nat_lt 0 q ≡ nat_lt 0 b) → nat_lt 0 (apply_of ops.Or p q 0) ≡ (is_true a || is_true b)
or_is p q a b e f = or_positive p q ∙ or_cases (nat_lt 0 p) (nat_lt 0 q) (is_true a) (is_true b) (e ∙ lt_is_true a) (λ h. f h ∙ lt_is_true b)

and_ones : (c d : Bool) → apply_of ops.And (one_if c) (one_if d) 0 ≡ one_if (c && d)
unfolding apply_of
and_ones true true = refl
and_ones true false = refl
and_ones false true = refl
and_ones false false = refl

and_cases : (c d : Bool) (u v : Bool) → c ≡ u → (not u ≡ false → d ≡ v) → (c && d) ≡ (u && v)
and_cases c d true v e f = ap₂ (λ (y z : Bool). y && z) e (f refl)
and_cases c d false v e f = ap (λ (z : Bool). z && d) e

pub and_is : (p q a b : ℕ) → nat_lt 0 p ≡ nat_lt 0 a → (not (is_true a) ≡ false → nat_lt 0 q ≡ nat_lt 0 b) → apply_of ops.And (one_if (nat_lt 0 p)) (one_if (nat_lt 0 q)) 0 ≡ one_if (is_true a && is_true b)
and_is p q a b e f =
    and_ones (nat_lt 0 p) (nat_lt 0 q)
    ∙ ap one_if (and_cases (nat_lt 0 p) (nat_lt 0 q) (is_true a) (is_true b) (e ∙ lt_is_true a) (λ h. f h ∙ lt_is_true b))

-- ---- contracts

pub maps_word : (old new : List Value) (v : ℕ) (outer : Wanted) (word r : ℕ) (f : ℕ → ℕ) → Extends old new → Means new word (λ x E. f (E v)) → r < length new
    → ((x : Moment) (E : Words) → Fits new x E → Agrees outer (E r) (E word)) → Maps old new TheWord v outer r f
maps_word old new v outer word r f kept means within agrees = record {
  kept = kept;
  within = within;
  is = λ x E w fits e. agrees_with outer (E r) (E word) (f w) (agrees x E fits) (means.is x E fits ∙ ap f e);
}

not_not : (b : Bool) → not (not b) ≡ b
not_not true = refl
not_not false = refl

pub maps_not : (old new : List Value) (v : ℕ) (outer : Wanted) (r : ℕ) → Extends old new → Means new r (λ x E. one_if (not (nat_lt 0 (E v)))) → Maps old new ACondition v outer r (signed_word marks.Not)
maps_not old new v outer r kept means = record {
  kept = kept;
  within = means.within;
  is = λ x E w fits e. agrees_same outer (E r) (one_if (w == 0)) (means.is x E fits ∙ ap (λ (z : Bool). one_if (not z)) (e ∙ lt_is_true w) ∙ ap one_if (not_not (w == 0)));
}

pub joins_word : (old new : List Value) (op : Binary) (s : Signedness) (v u : ℕ) (outer : Wanted) (word r : ℕ) → is_conditional op ≡ false → Extends old new
    → Means new word (λ x E. two_words op s (E v) (E u)) → r < length new → ((x : Moment) (E : Words) → Fits new x E → Agrees outer (E r) (E word)) → Joins old new op s v u outer r
joins_word old new op s v u outer word r always kept means within agrees = record {
  kept = kept;
  within = within;
  is = λ x E a b fits first second. agrees_with outer (E r) (E word) (two_words op s a b) (agrees x E fits)
      (means.is x E fits ∙ ap₂ (two_words op s) (word_of_side op (E v) a always first) (word_of_side op (E u) b always (second (never_settled op a always))));
}

pub joins_or : (old new : List Value) (s : Signedness) (v u either : ℕ) → Extends old new → Means new either (λ x E. apply_of ops.Or (E v) (E u) 0) → Joins old new OrElse s v u ACondition either
joins_or old new s v u either kept means = record {
  kept = kept;
  within = means.within;
  is = λ x E a b fits first second.
      ap (nat_lt 0) (means.is x E fits) ∙ or_is (E v) (E u) a b first second ∙ sym (lt_one_if (is_true a || is_true b));
}

pub joins_or_word : (old mid new : List Value) (s : Signedness) (v u either r : ℕ) → Extends old mid → Extends mid new → Means mid either (λ x E. apply_of ops.Or (E v) (E u) 0)
    → Means new r (λ x E. one_if (nat_lt 0 (E either))) → Joins old new OrElse s v u TheWord r
joins_or_word old mid new s v u either r kept more means truth = record {
  kept = extends_then old mid new kept more;
  within = truth.within;
  is = λ x E a b fits first second.
      truth.is x E fits ∙ ap one_if (ap (nat_lt 0) (means.is x E (fits_back mid new x E more fits)) ∙ or_is (E v) (E u) a b first second);
}

pub joins_and : (old one two new : List Value) (s : Signedness) (outer : Wanted) (v u p q r : ℕ) → Extends old one → Extends one two → Extends two new
    → Means one p (λ x E. one_if (nat_lt 0 (E v))) → Means two q (λ x E. one_if (nat_lt 0 (E u))) → Means new r (λ x E. apply_of ops.And (E p) (E q) 0) → Joins old new AndThen s v u outer r
joins_and old one two new s outer v u p q r k l m first_is second_is is = record {
  kept = extends_then old one new k (extends_then one two new l m);
  within = is.within;
  is = λ x E a b fits first second.
      let f = fits_back two new x E m fits in
      agrees_same outer (E r) (one_if (is_true a && is_true b))
      (is.is x E fits ∙ ap₂ (λ y z. apply_of ops.And y z 0) (first_is.is x E (fits_back one two x E l f)) (second_is.is x E f) ∙ and_is (E v) (E u) a b first second);
}

-- ---- values of operations

pub means_extended : (one two new : List Value) (bits v count left r : ℕ) → Extends one two → Extends two new
    → Means one count (λ x E. 32 - bits) → Means two left (λ x E. apply_of ops.Shl (E v) (E count) 0) → Means new r (λ x E. apply_of ops.Sar (E left) (E count) 0)
    → Means new r (λ x E. extended bits (E v))
means_extended one two new bits v count left r k l c s h = record {
  within = h.within;
  is = λ x E fits.
      let f = fits_back two new x E l fits in
      let e = c.is x E (fits_back one two x E k f) in
      h.is x E fits ∙ ap₂ (λ y z. apply_of ops.Sar y z 0) (s.is x E f ∙ ap (λ z. apply_of ops.Shl (E v) z 0) e) e;
}

pub means_with : (one new : List Value) (op : Op) (v word constant r : ℕ) → Extends one new → Means one constant (λ x E. word) → Means new r (λ x E. apply_of op (E v) (E constant) 0) → Means new r (λ x E. apply_of op (E v) word 0)
means_with one new op v word constant r k c h = record {
  within = h.within;
  is = λ x E fits. h.is x E fits ∙ ap (λ z. apply_of op (E v) z 0) (c.is x E (fits_back one new x E k fits));
}

pub means_from : (one new : List Value) (op : Op) (v word constant r : ℕ) → Extends one new → Means one constant (λ x E. word) → Means new r (λ x E. apply_of op (E constant) (E v) 0) → Means new r (λ x E. apply_of op word (E v) 0)
means_from one new op v word constant r k c h = record {
  within = h.within;
  is = λ x E fits. h.is x E fits ∙ ap (λ z. apply_of op z (E v) 0) (c.is x E (fits_back one new x E k fits));
}

pub means_greater : (new : List Value) (s : Signedness) (v u r : ℕ) (op : Op) → op ≡ less_op s → Means new r (λ x E. apply_of op (E u) (E v) 0) → Means new r (λ x E. two_words Greater s (E v) (E u))
means_greater new s v u r op e h = record {
  within = h.within;
  is = λ x E fits. h.is x E fits ∙ ap (λ (z : Op). apply_of z (E u) (E v) 0) e ∙ less_is s (E u) (E v);
}

pub means_at_most : (one new : List Value) (s : Signedness) (v u less r : ℕ) (op : Op) → op ≡ less_op s → Extends one new → Means one less (λ x E. apply_of op (E u) (E v) 0) → Means new r (λ x E. one_if (not (nat_lt 0 (E less)))) → Means new r (λ x E. two_words AtMost s (E v) (E u))
means_at_most one new s v u less r op e k l h = record {
  within = h.within;
  is = λ x E fits. h.is x E fits ∙ negated_is (E less) (is_less s (E u) (E v)) (l.is x E (fits_back one new x E k fits) ∙ ap (λ (z : Op). apply_of z (E u) (E v) 0) e ∙ less_is s (E u) (E v));
}

pub means_at_least : (one new : List Value) (s : Signedness) (v u less r : ℕ) (op : Op) → op ≡ less_op s → Extends one new → Means one less (λ x E. apply_of op (E v) (E u) 0) → Means new r (λ x E. one_if (not (nat_lt 0 (E less)))) → Means new r (λ x E. two_words AtLeast s (E v) (E u))
means_at_least one new s v u less r op e k l h = record {
  within = h.within;
  is = λ x E fits. h.is x E fits ∙ negated_is (E less) (is_less s (E v) (E u)) (l.is x E (fits_back one new x E k fits) ∙ ap (λ (z : Op). apply_of z (E v) (E u) 0) e ∙ less_is s (E v) (E u));
}

pub means_direct : (new : List Value) (b : Binary) (s : Signedness) (v u r : ℕ) (op : Op) → is_direct b ≡ true → op ≡ direct_op b s → Means new r (λ x E. apply_of op (E v) (E u) 0) → Means new r (λ x E. two_words b s (E v) (E u))
means_direct new b s v u r op direct e h = record {
  within = h.within;
  is = λ x E fits. h.is x E fits ∙ ap (λ (z : Op). apply_of z (E v) (E u) 0) e ∙ direct_is b s (E v) (E u) direct;
}

pub is_directly : (op : Binary) → is_conditional op ≡ false → (op ≡ Greater → ⊥) → (op ≡ AtMost → ⊥) → (op ≡ AtLeast → ⊥) → is_direct op ≡ true
is_directly Greater a b c d = absurd (b refl)
is_directly AtMost a b c d = absurd (c refl)
is_directly AtLeast a b c d = absurd (d refl)
is_directly op a b c d = ap not a

pub means_advanced : (one two new : List Value) (place word index dimension row r : ℕ) → Extends one two → Extends two new
    → Means one dimension (λ x E. word) → Means two row (λ x E. apply_of ops.Mul (E place) (E dimension) 0) → Means new r (λ x E. apply_of ops.Add (E row) (E index) 0)
    → Means new r (λ x E. apply_of ops.Add (apply_of ops.Mul (E place) word 0) (E index) 0)
means_advanced one two new place word index dimension row r k l c s h = record {
  within = h.within;
  is = λ x E fits.
      let f = fits_back two new x E l fits in
      h.is x E fits ∙ ap (λ y. apply_of ops.Add y (E index) 0) (s.is x E f ∙ ap (λ z. apply_of ops.Mul (E place) z 0) (c.is x E (fits_back one two x E k f)));
}
