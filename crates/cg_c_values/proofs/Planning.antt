-- Plans by what is known of the operands.
use Rattle.std.proofs.Common.{◌≡◌, ℕ, ◌+◌, ◌%◌, ◌<◌, ◌≤◌, true, List, length, refl, sym, ap, ◌∙◌, subst, arith}
use Rattle.cg_word.specs.declared.op.Op.{Op}
use Rattle.cg_word.specs.declared.op.Op.TheVariants as ops
use Rattle.cg_word.specs.Word.{apply_of, words}
use Rattle.cg_c_values.specs.Plans.{Again, Carried, Commutes, Gives, Given, Is, IsOrder, IsShift, Number, Outwards, Plan, ShiftsBy}
use Rattle.cg_c_values.specs.Standing.{IsTruth}
use Rattle.cg_c_values.specs.Values.{Value, Two, Fits, Means, Moment, Words, is_plain, value_at}
use Rattle.cg_c_values.proofs.Known.{two_means}
use Rattle.cg_c_values.proofs.Shifting.{shift_rest}
use Rattle.std.proofs.lemmas.Nat.{mod_below}
use Rattle.cg_c_values.proofs.Adding.{add_negative, add_regrouped, mul_top, outwards_first, outwards_second}

pub number_is : (s : List Value) (v w k : ℕ) → Means s v (λ x E. w) → w ≡ k → Means s v (λ x E. k)
number_is s v w k m e = record { within = m.within; is = λ x E f. m.is x E f ∙ e }

module _ (s : List Value) (op : Op) (a b : ℕ) (la : a < length s) where
  -- the operation at a constant
  at : (w : ℕ) (x : Moment) (E : Words) → Means s b (λ x E. w) → Fits s x E → ((y : ℕ) → y < words → w < words → E a ≡ y → apply_of op y w 0 ≡ apply_of op (E a) (E b) 0)
  at w x E m f y l k e = ap (λ z. apply_of op z w 0) (sym e) ∙ ap (λ z. apply_of op (E a) z 0) (sym (m.is x E f))

  -- what is known of the constant
  small : (w : ℕ) (x : Moment) (E : Words) → Means s b (λ x E. w) → Fits s x E → w < words
  small w x E m f = subst (λ z. z < words) (m.is x E f) (f.word b m.within)

  -- the first operand, by the second
  pub first_at : (w : ℕ) → Means s b (λ x E. w) → ((y : ℕ) → y < words → y ≡ apply_of op y w 0) → Gives s (Is (Given a)) (λ E. apply_of op (E a) (E b) 0)
  first_at w m h = record { within = la; is = λ x E f. h (E a) (f.word a la) ∙ at w x E m f (E a) (f.word a la) (small w x E m f) refl }

  -- the second operand, by itself
  pub second_at : (w : ℕ) → Means s b (λ x E. w) → ((y : ℕ) → y < words → w ≡ apply_of op y w 0) → Gives s (Is (Given b)) (λ E. apply_of op (E a) (E b) 0)
  second_at w m h = record { within = m.within; is = λ x E f. m.is x E f ∙ h (E a) (f.word a la) ∙ at w x E m f (E a) (f.word a la) (small w x E m f) refl }

  -- a constant, by the second operand
  pub number_at : (w k : ℕ) → k < words → Means s b (λ x E. w) → ((y : ℕ) → y < words → k ≡ apply_of op y w 0) → Gives s (Is (Number k)) (λ E. apply_of op (E a) (E b) 0)
  number_at w k l m h = record { within = l; is = λ x E f. h (E a) (f.word a la) ∙ at w x E m f (E a) (f.word a la) (small w x E m f) refl }

  -- an operand or a constant, where the operands are equal
  pub first_if_equal : a ≡ b → ((y : ℕ) → y < words → y ≡ apply_of op y y 0) → Gives s (Is (Given a)) (λ E. apply_of op (E a) (E b) 0)
  first_if_equal e h = record { within = la; is = λ x E f. h (E a) (f.word a la) ∙ ap (λ v. apply_of op (E a) (E v) 0) e }

  pub number_if_equal : (k : ℕ) → k < words → a ≡ b → ((y : ℕ) → y < words → k ≡ apply_of op y y 0) → Gives s (Is (Number k)) (λ E. apply_of op (E a) (E b) 0)
  number_if_equal k l e h = record { within = l; is = λ x E f. h (E a) (f.word a la) ∙ ap (λ v. apply_of op (E a) (E v) 0) e }

  -- where the first operand is 0 or 1
  pub first_if_truth : (w : ℕ) → Means s b (λ x E. w) → IsTruth s a → ((y : ℕ) → y ≤ 1 → y ≡ apply_of op y w 0) → Gives s (Is (Given a)) (λ E. apply_of op (E a) (E b) 0)
  first_if_truth w m t h = record { within = la; is = λ x E f. h (E a) (t.is x E f) ∙ at w x E m f (E a) (f.word a la) (small w x E m f) refl }

  pub number_if_truth : (w k : ℕ) → k < words → Means s b (λ x E. w) → IsTruth s a → ((y : ℕ) → y ≤ 1 → k ≡ apply_of op y w 0) → Gives s (Is (Number k)) (λ E. apply_of op (E a) (E b) 0)
  number_if_truth w k l m t h = record { within = l; is = λ x E f. h (E a) (t.is x E f) ∙ at w x E m f (E a) (f.word a la) (small w x E m f) refl }

  pub plan_if_truth : (p : Plan) (w : ℕ) (g : ℕ → ℕ) → Means s b (λ x E. w) → IsTruth s a → Gives s p (λ E. g (E a)) → ((y : ℕ) → y ≤ 1 → g y ≡ apply_of op y w 0) → Gives s p (λ E. apply_of op (E a) (E b) 0)
  plan_if_truth p w g m t r h = record { within = r.within; is = λ x E f. r.is x E f ∙ h (E a) (t.is x E f) ∙ at w x E m f (E a) (f.word a la) (small w x E m f) refl }

  -- another operation with a constant
  pub again_with : (q : Op) (w k : ℕ) → is_plain q ≡ true → k < words → Means s b (λ x E. w) → ((y : ℕ) → y < words → w < words → apply_of q y k 0 ≡ apply_of op y w 0)
      → Gives s (Again q (Given a) (Number k)) (λ E. apply_of op (E a) (E b) 0)
  again_with q w k p l m h =
      record { within = (p, la, l); is = λ x E f. h (E a) (f.word a la) (small w x E m f) ∙ at w x E m f (E a) (f.word a la) (small w x E m f) refl }

  -- two constants become one
  pub again_inner : (q r : Op) (u c w k : ℕ) → is_plain r ≡ true → k < words → u < length s → Means s a (λ x E. apply_of q (E u) c 0) → Means s b (λ x E. w)
      → ((y : ℕ) → y < words → w < words → apply_of r y k 0 ≡ apply_of op (apply_of q y c 0) w 0)
      → Gives s (Again r (Given u) (Number k)) (λ E. apply_of op (E a) (E b) 0)
  again_inner q r u c w k p l lu n m h =
      record {
        within = (p, lu, l);
        is = λ x E f. h (E u) (f.word u lu) (small w x E m f) ∙ ap (λ z. apply_of op z w 0) (sym (n.is x E f)) ∙ at w x E m f (E a) (f.word a la) (small w x E m f) refl;
      }

  -- by the first operand
  pub first_as : (w : ℕ) → Means s a (λ x E. w) → ((y : ℕ) → y < words → w ≡ apply_of op w y 0) → b < length s → Gives s (Is (Given a)) (λ E. apply_of op (E a) (E b) 0)
  first_as w m h lb = record { within = la; is = λ x E f. m.is x E f ∙ h (E b) (f.word b lb) ∙ ap (λ z. apply_of op z (E b) 0) (sym (m.is x E f)) }

  pub number_as : (w k : ℕ) → k < words → Means s a (λ x E. w) → ((y : ℕ) → y < words → k ≡ apply_of op w y 0) → b < length s → Gives s (Is (Number k)) (λ E. apply_of op (E a) (E b) 0)
  number_as w k l m h lb = record { within = l; is = λ x E f. h (E b) (f.word b lb) ∙ ap (λ z. apply_of op z (E b) 0) (sym (m.is x E f)) }

  pub exchanged : (p : Plan) → b < length s → Commutes op → Gives s p (λ E. apply_of op (E b) (E a) 0) → Gives s p (λ E. apply_of op (E a) (E b) 0)
  exchanged p lb c g = record { within = g.within; is = λ x E f. g.is x E f ∙ c (E b) (E a) (f.word b lb) (f.word a la) }

-- ---- sums

pub outwards_gives_first : (s : List Value) (a b u c : ℕ) → b < length s → u < length s → c < words → Means s a (λ x E. apply_of ops.Add (E u) c 0)
    → Gives s (Outwards u b c) (λ E. apply_of ops.Add (E a) (E b) 0)
outwards_gives_first s a b u c lb lu lc m =
    record { within = (lu, lb, lc); is = λ x E f. outwards_first (E u) (E b) c ∙ ap (λ z. apply_of ops.Add z (E b) 0) (sym (m.is x E f)) }

pub outwards_gives_second : (s : List Value) (a b u c : ℕ) → a < length s → u < length s → c < words → Means s b (λ x E. apply_of ops.Add (E u) c 0)
    → Gives s (Outwards a u c) (λ E. apply_of ops.Add (E a) (E b) 0)
outwards_gives_second s a b u c la lu lc m =
    record { within = (la, lu, lc); is = λ x E f. outwards_second (E a) (E u) c ∙ ap (λ z. apply_of ops.Add (E a) z 0) (sym (m.is x E f)) }

pub carried_gives : (s : List Value) (a b p u : ℕ) → b < length s → p < length s → u < length s → Means s a (λ x E. apply_of ops.Add (E p) (E u) 0)
    → Gives s (Carried p u b) (λ E. apply_of ops.Add (E a) (E b) 0)
carried_gives s a b p u lb lp lu m =
    record { within = (lp, lu, lb); is = λ x E f. add_regrouped (E p) (E u) (E b) ∙ ap (λ z. apply_of ops.Add z (E b) 0) (sym (m.is x E f)) }

pub negative_gives : (s : List Value) (a b u : ℕ) → a < length s → u < length s → Means s b (λ x E. apply_of ops.Sub 0 (E u) 0)
    → Gives s (Again ops.Sub (Given a) (Given u)) (λ E. apply_of ops.Add (E a) (E b) 0)
negative_gives s a b u la lu m =
    record { within = (refl, la, lu); is = λ x E f. add_negative (E a) (E u) (f.word u lu) ∙ ap (λ z. apply_of ops.Add (E a) z 0) (sym (m.is x E f)) }

pub top_gives : (s : List Value) (a b : ℕ) → a < length s → Means s b (λ x E. 4294967295) → Gives s (Again ops.Sub (Number 0) (Given a)) (λ E. apply_of ops.Mul (E a) (E b) 0)
top_gives s a b la m =
    record { within = (refl, omega arith, la); is = λ x E f. mul_top (E a) (f.word a la) ∙ ap (λ z. apply_of ops.Mul (E a) z 0) (sym (m.is x E f)) }

-- ---- shifts

pub shifts_give : (s : List Value) (op : Op) (a b u c w n : ℕ) (p : Plan) → IsShift op → u < length s → w < 32 → Means s a (λ x E. apply_of op (E u) c 0) → Means s b (λ x E. w)
    → c % 32 + w ≡ n → ShiftsBy p op u n → Gives s p (λ E. apply_of op (E a) (E b) 0)
shifts_give s op a b u c w n p i lu lw m k e h =
    record {
      within = h.within (length s) lu;
      is = λ x E f.
          h.is E (c % 32) w (f.word u lu) (mod_below c 32 (omega arith)) lw e ∙ ap (λ z. apply_of op z w 0) (shift_rest op (E u) c i ∙ sym (m.is x E f))
          ∙ ap (λ z. apply_of op (E a) z 0) (sym (k.is x E f));
    }

-- ---- negations

pub negated_gives : (s : List Value) (v : ℕ) (op q : Op) (a b : ℕ) (r : Plan) → is_plain q ≡ true → v < length s → a < v → b < v → value_at s v ≡ Two op a b
    → ((x y : ℕ) → apply_of q x y 0 ≡ apply_of ops.Eq (apply_of op x y 0) 0 0) → r ≡ Again q (Given a) (Given b) → Gives s r (λ E. apply_of ops.Eq (E v) 0 0)
negated_gives s v op q a b r p l la lb e h is =
    subst (λ (plan : Plan). Gives s plan (λ E. apply_of ops.Eq (E v) 0 0)) (sym is)
    (record { within = (p, omega arith, omega arith); is = λ x E f. h (E a) (E b) ∙ ap (λ z. apply_of ops.Eq z 0 0) (sym ((two_means s v op a b l e).is x E f)) })

pub less_gives : (s : List Value) (v : ℕ) (op : Op) (least greatest a b w n : ℕ) → IsOrder op least greatest → a < length s → Means s v (λ x E. apply_of op (E a) (E b) 0) → Means s b (λ x E. w)
    → (w ≡ least → ⊥) → n < words → n ≡ apply_of ops.Sub w 1 0 → Gives s (Again op (Number n) (Given a)) (λ E. apply_of ops.Eq (E v) 0 0)
less_gives s v op least greatest a b w n o la m k d l e =
    record {
      within = (o.plain, l, la);
      is = λ x E f.
          o.one_less (E a) w n (f.word a la) (subst (λ z. z < words) (k.is x E f) (f.word b k.within)) d e
          ∙ ap (λ z. apply_of ops.Eq z 0 0) (ap (λ z. apply_of op (E a) z 0) (sym (k.is x E f)) ∙ sym (m.is x E f));
    }

pub more_gives : (s : List Value) (v : ℕ) (op : Op) (least greatest a b w n : ℕ) → IsOrder op least greatest → b < length s → Means s v (λ x E. apply_of op (E a) (E b) 0) → Means s a (λ x E. w)
    → (w ≡ greatest → ⊥) → n < words → n ≡ apply_of ops.Add w 1 0 → Gives s (Again op (Given b) (Number n)) (λ E. apply_of ops.Eq (E v) 0 0)
more_gives s v op least greatest a b w n o lb m k d l e =
    record {
      within = (o.plain, lb, l);
      is = λ x E f.
          o.one_more w (E b) n (subst (λ z. z < words) (k.is x E f) (f.word a k.within)) (f.word b lb) d e
          ∙ ap (λ z. apply_of ops.Eq z 0 0) (ap (λ z. apply_of op z (E b) 0) (sym (k.is x E f)) ∙ sym (m.is x E f));
    }
