-- Choices by what is known of the operands.
use Rattle.std.proofs.Common.{◌≡◌, ◌≢◌, ℕ, ◌<◌, true, List, length, refl, sym, ap, ◌∙◌, subst, arith}
use Rattle.cg_word.specs.declared.op.Op.{Op}
use Rattle.cg_word.specs.declared.op.Op.TheVariants as ops
use Rattle.cg_word.specs.Word.{apply_of}
use Rattle.cg_c_values.specs.declared.plan.Choice.TheVariants.{Planned, Again, Step}
use Rattle.cg_c_values.specs.Plans.{Choice, Chooses, Gives, Given, Is, IsStep, Number, Plan, chosen_word}
use Rattle.cg_c_values.specs.Plans as plans
use Rattle.cg_c_values.specs.Standing.{IsTruth}
use Rattle.cg_c_values.specs.Values.{Value, Two, Fits, Means, Moment, Words, is_plain, value_at}
use Rattle.cg_c_values.proofs.Known.{two_means}
use Rattle.cg_c_values.proofs.Choosing.{select_back, select_chosen, select_eq, select_forth, select_maxs, select_mins, select_ne, select_negated, select_other, select_same, select_truth}

module _ (s : List Value) (c a b : ℕ) (lc : c < length s) (la : a < length s) (lb : b < length s) where
  -- a value that is there
  pub is_other : (r : Choice) → r ≡ Planned (Is (Given b)) → Means s c (λ x E. 0) → Chooses s r c a b
  is_other r e m =
      subst (λ (z : Choice). Chooses s z c a b) (sym e)
      (record { within = lb; is = λ x E f. select_other (E a) (E b) ∙ ap (λ z. apply_of ops.Select z (E a) (E b)) (sym (m.is x E f)) })

  pub is_chosen : (r : Choice) (w : ℕ) → r ≡ Planned (Is (Given a)) → w ≢ 0 → Means s c (λ x E. w) → Chooses s r c a b
  is_chosen r w e n m =
      subst (λ (z : Choice). Chooses s z c a b) (sym e)
      (record { within = la; is = λ x E f. select_chosen w (E a) (E b) n ∙ ap (λ z. apply_of ops.Select z (E a) (E b)) (sym (m.is x E f)) })

  pub is_same : (r : Choice) → r ≡ Planned (Is (Given a)) → a ≡ b → Chooses s r c a b
  is_same r e same =
      subst (λ (z : Choice). Chooses s z c a b) (sym e)
      (record { within = la; is = λ x E f. select_same (E c) (E a) ∙ ap (λ v. apply_of ops.Select (E c) (E a) (E v)) same })

  -- by a comparison with 0
  pub by_eq : (t w : ℕ) → t < length s → w ≡ 0 → Means s c (λ x E. apply_of ops.Eq (E t) w 0) → Chooses s (Again t b a) c a b
  by_eq t w lt e m =
      record {
        within = (lt, lb, la);
        is = λ x E f. select_eq (E t) (E a) (E b) ∙ ap (λ z. apply_of ops.Select z (E a) (E b)) (ap (λ z. apply_of ops.Eq (E t) z 0) (sym e) ∙ sym (m.is x E f));
      }

  pub by_ne : (t w : ℕ) → t < length s → w ≡ 0 → Means s c (λ x E. apply_of ops.Ne (E t) w 0) → Chooses s (Again t a b) c a b
  by_ne t w lt e m =
      record {
        within = (lt, la, lb);
        is = λ x E f. select_ne (E t) (E a) (E b) ∙ ap (λ z. apply_of ops.Select z (E a) (E b)) (ap (λ z. apply_of ops.Ne (E t) z 0) (sym e) ∙ sym (m.is x E f));
      }

  -- the constants 0 and 1
  constants : (w k : ℕ) (x : Moment) (E : Words) → Means s a (λ x E. w) → Means s b (λ x E. k) → Fits s x E → apply_of ops.Select (E c) w k ≡ apply_of ops.Select (E c) (E a) (E b)
  constants w k x E m n f = ap (λ z. apply_of ops.Select (E c) z k) (sym (m.is x E f)) ∙ ap (λ z. apply_of ops.Select (E c) (E a) z) (sym (n.is x E f))

  pub is_condition : (r : Choice) → r ≡ Planned (Is (Given c)) → IsTruth s c → Means s a (λ x E. 1) → Means s b (λ x E. 0) → Chooses s r c a b
  is_condition r e t m n =
      subst (λ (z : Choice). Chooses s z c a b) (sym e)
      (record { within = lc; is = λ x E f. select_truth (E c) (t.is x E f) ∙ constants 1 0 x E m n f })

  pub is_negation : (p : Plan) → Gives s p (λ E. apply_of ops.Eq (E c) 0 0) → Means s a (λ x E. 0) → Means s b (λ x E. 1) → Chooses s (Planned p) c a b
  is_negation p g m n = record { within = g.within; is = λ x E f. g.is x E f ∙ select_negated (E c) ∙ constants 0 1 x E m n f }

  -- by the order of the two
  pub is_mins : (r : Choice) (p q : ℕ) → r ≡ Planned (plans.Again ops.Mins (Given a) (Given b)) → value_at s c ≡ Two ops.Lts p q → p ≡ a → q ≡ b → Chooses s r c a b
  is_mins r p q e is h k =
      subst (λ (z : Choice). Chooses s z c a b) (sym e)
      (record {
        within = (refl, la, lb);
        is = λ x E f.
            select_mins (E a) (E b) (f.word a la) (f.word b lb)
            ∙ ap (λ z. apply_of ops.Select z (E a) (E b)) (ap (λ v. apply_of ops.Lts (E v) (E b) 0) (sym h) ∙ ap (λ v. apply_of ops.Lts (E p) (E v) 0) (sym k) ∙ sym ((two_means s c ops.Lts p q lc is).is x E f));
      })

  pub is_maxs : (r : Choice) (p q : ℕ) → r ≡ Planned (plans.Again ops.Maxs (Given a) (Given b)) → value_at s c ≡ Two ops.Lts p q → p ≡ b → q ≡ a → Chooses s r c a b
  is_maxs r p q e is h k =
      subst (λ (z : Choice). Chooses s z c a b) (sym e)
      (record {
        within = (refl, la, lb);
        is = λ x E f.
            select_maxs (E a) (E b) (f.word a la) (f.word b lb)
            ∙ ap (λ z. apply_of ops.Select z (E a) (E b)) (ap (λ v. apply_of ops.Lts (E v) (E a) 0) (sym h) ∙ ap (λ v. apply_of ops.Lts (E p) (E v) 0) (sym k) ∙ sym ((two_means s c ops.Lts p q lc is).is x E f));
      })

  -- by a step from one to the other
  pub step_forth : (op : Op) (z : ℕ) → is_plain op ≡ true → IsStep op → z < length s → Means s a (λ x E. apply_of op (E b) (E z) 0) → Chooses s (Step op b c (Given z) (Number 0)) c a b
  step_forth op z p h lz m =
      record {
        within = (p, lb, lc, lz, omega arith);
        is = λ x E f. select_forth op (E c) (E b) (E z) h (f.word b lb) ∙ ap (λ y. apply_of ops.Select (E c) y (E b)) (sym (m.is x E f));
      }

  pub step_back : (op : Op) (z : ℕ) → is_plain op ≡ true → IsStep op → z < length s → Means s b (λ x E. apply_of op (E a) (E z) 0) → Chooses s (Step op a c (Number 0) (Given z)) c a b
  step_back op z p h lz m =
      record {
        within = (p, la, lc, omega arith, lz);
        is = λ x E f. select_back op (E c) (E a) (E z) h (f.word a la) ∙ ap (λ y. apply_of ops.Select (E c) (E a) y) (sym (m.is x E f));
      }
