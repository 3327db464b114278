-- Identities of choices between words.
use Rattle.std.proofs.Common.{◌≡◌, ◌≢◌, ℕ, zero, suc, ◌<◌, ◌≤◌, Bool, true, false, nat_lt, eqb, cond, refl, sym, ap, ◌∙◌, subst, arith, ⊎_elim}
use Rattle.std.proofs.lemmas.Bool.{cases_order, lt-ltb, le-ltb, ne_eqb}
use Rattle.cg_word.specs.declared.op.Op.{Op}
use Rattle.cg_word.specs.declared.op.Op.TheVariants.{Eq, Ne, Lts, Mins, Maxs, Select}
use Rattle.cg_word.specs.Word.{apply_of, one_if, rank, words}
use Rattle.cg_c_values.specs.Plans.{IsStep}
use Rattle.cg_c_values.proofs.Comparing.{rank_once}

some : (x : ℕ) → nat_lt 0 (suc x) ≡ true
some x = lt-ltb 0 (suc x) (omega arith)

none : (x : ℕ) → eqb (suc x) 0 ≡ false
none x = ne_eqb (suc x) 0 (λ e. omega arith)

pub select_other : (a b : ℕ) → b ≡ apply_of Select 0 a b
unfolding apply_of
select_other a b = refl

pub select_chosen : (c a b : ℕ) → c ≢ 0 → a ≡ apply_of Select c a b
unfolding apply_of
select_chosen zero a b n = absurd (n refl)
select_chosen (suc c) a b n = sym (ap (λ t. cond t a b) (some c))

pub select_same : (c a : ℕ) → a ≡ apply_of Select c a a
unfolding apply_of
select_same zero a = refl
select_same (suc c) a = sym (ap (λ t. cond t a a) (some c))

-- ---- by comparisons with 0

pub select_eq : (x a b : ℕ) → apply_of Select x b a ≡ apply_of Select (apply_of Eq x 0 0) a b
unfolding apply_of
select_eq zero a b = refl
select_eq (suc x) a b = ap (λ t. cond t b a) (some x) ∙ sym (ap (λ t. cond (nat_lt 0 (one_if t)) a b) (none x))

pub select_ne : (x a b : ℕ) → apply_of Select x a b ≡ apply_of Select (apply_of Ne x 0 0) a b
unfolding apply_of
select_ne zero a b = refl
select_ne (suc x) a b = ap (λ t. cond t a b) (some x) ∙ sym (ap (λ t. cond (nat_lt 0 (cond t 0 1)) a b) (none x))

pub select_truth : (x : ℕ) → x ≤ 1 → x ≡ apply_of Select x 1 0
unfolding apply_of
select_truth zero l = refl
select_truth (suc zero) l = refl
select_truth (suc (suc x)) l = absurd (omega arith)

pub select_negated : (x : ℕ) → apply_of Eq x 0 0 ≡ apply_of Select x 0 1
unfolding apply_of
select_negated zero = refl
select_negated (suc x) = ap one_if (none x) ∙ sym (ap (λ t. cond t 0 1) (some x))

-- ---- the lesser and the greater

pub select_mins : (a b : ℕ) → a < words → b < words → apply_of Mins a b 0 ≡ apply_of Select (apply_of Lts a b 0) a b
unfolding apply_of
select_mins a b l m =
    ⊎_elim
    (λ e. subst (λ z. cond (nat_lt (rank z) (rank a)) z a ≡ cond (nat_lt 0 (one_if (nat_lt (rank a) (rank z)))) a z) (rank_once a b l m e) (same (nat_lt (rank a) (rank a)) a))
    (λ o. ⊎_elim
    (λ h. ap (λ t. cond t b a) (le-ltb (rank b) (rank a) (omega arith)) ∙ sym (ap (λ t. cond (nat_lt 0 (one_if t)) a b) (lt-ltb (rank a) (rank b) h)))
    (λ h. ap (λ t. cond t b a) (lt-ltb (rank b) (rank a) h) ∙ sym (ap (λ t. cond (nat_lt 0 (one_if t)) a b) (le-ltb (rank a) (rank b) (omega arith))))
    o)
    (cases_order (rank a) (rank b))
  where
    same : (t : Bool) (x : ℕ) → cond t x x ≡ cond (nat_lt 0 (one_if t)) x x
    same true x = refl
    same false x = refl

pub select_maxs : (a b : ℕ) → a < words → b < words → apply_of Maxs a b 0 ≡ apply_of Select (apply_of Lts b a 0) a b
unfolding apply_of
select_maxs a b l m =
    ⊎_elim
    (λ e. subst (λ z. cond (nat_lt (rank a) (rank z)) z a ≡ cond (nat_lt 0 (one_if (nat_lt (rank z) (rank a)))) a z) (rank_once a b l m e) (same (nat_lt (rank a) (rank a)) a))
    (λ o. ⊎_elim
    (λ h. ap (λ t. cond t b a) (lt-ltb (rank a) (rank b) h) ∙ sym (ap (λ t. cond (nat_lt 0 (one_if t)) a b) (le-ltb (rank b) (rank a) (omega arith))))
    (λ h. ap (λ t. cond t b a) (le-ltb (rank a) (rank b) (omega arith)) ∙ sym (ap (λ t. cond (nat_lt 0 (one_if t)) a b) (lt-ltb (rank b) (rank a) h)))
    o)
    (cases_order (rank a) (rank b))
  where
    same : (t : Bool) (x : ℕ) → cond t x x ≡ cond (nat_lt 0 (one_if t)) x x
    same true x = refl
    same false x = refl

-- ---- steps

pub select_forth : (op : Op) (c y z : ℕ) → IsStep op → y < words → apply_of op y (apply_of Select c z 0) 0 ≡ apply_of Select c (apply_of op y z 0) y
unfolding apply_of
select_forth op zero y z s l = s y l
select_forth op (suc c) y z s l = ap (λ t. apply_of op y (cond t z 0) 0) (some c) ∙ sym (ap (λ t. cond t (apply_of op y z 0) y) (some c))

pub select_back : (op : Op) (c y z : ℕ) → IsStep op → y < words → apply_of op y (apply_of Select c 0 z) 0 ≡ apply_of Select c y (apply_of op y z 0)
unfolding apply_of
select_back op zero y z s l = refl
select_back op (suc c) y z s l = ap (λ t. apply_of op y (cond t 0 z) 0) (some c) ∙ s y l ∙ sym (ap (λ t. cond t y (apply_of op y z 0)) (some c))
