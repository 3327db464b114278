-- Identities of comparisons of words.
use Rattle.std.proofs.Common.{◌≡◌, ◌≢◌, ℕ, zero, suc, ◌+◌, ◌-◌, ◌%◌, ◌<◌, ◌≤◌, Bool, true, false, nat_lt, not, eqb, eq-eqb, cond, refl, sym, ap, ◌∙◌, subst, arith, ⊎_elim}
use Rattle.std.proofs.lemmas.Bool.{cases_lt, cases_eq, cases_order, lt-ltb, le-ltb, ne_eqb}
use Rattle.cg_word.specs.declared.op.Op.TheVariants.{Add, Sub, Eq, Ne, Lts, Ltu, Mins, Maxs}
use Rattle.cg_word.specs.Word.{apply_of, one_if, rank, words}
use Rattle.cg_c_values.specs.Plans.{IsOrder}

-- ---- tests

same_tests : (a b c d : ℕ) → (a ≡ b → c ≡ d) → (c ≡ d → a ≡ b) → eqb a b ≡ eqb c d
same_tests a b c d f g = ⊎_elim (λ e. eq-eqb a b e ∙ sym (eq-eqb c d (f e))) (λ n. ne_eqb a b n ∙ sym (ne_eqb c d (λ e. n (g e)))) (cases_eq a b)

-- c is below d where a isn't below b
opposite : (a b c d : ℕ) → (a < b → d ≤ c) → (b ≤ a → c < d) → one_if (nat_lt c d) ≡ one_if (eqb (one_if (nat_lt a b)) 0)
opposite a b c d f g =
    ⊎_elim (λ l. ap one_if (le-ltb c d (f l)) ∙ sym (ap (λ t. one_if (eqb (one_if t) 0)) (lt-ltb a b l)))
    (λ l. ap one_if (lt-ltb c d (g l)) ∙ sym (ap (λ t. one_if (eqb (one_if t) 0)) (le-ltb a b l)))
    (cases_lt a b)

not_below : (a b : ℕ) → b ≤ a → 0 ≡ one_if (nat_lt a b)
not_below a b l = sym (ap one_if (le-ltb a b l))

same_if : (t : Bool) (x : ℕ) → x ≡ cond t x x
same_if true x = refl
same_if false x = refl

-- ---- equal words

pub eq_itself : (x : ℕ) → 1 ≡ apply_of Eq x x 0
unfolding apply_of
eq_itself x = sym (ap one_if (eq-eqb x x refl))

pub ne_itself : (x : ℕ) → 0 ≡ apply_of Ne x x 0
unfolding apply_of
ne_itself x = sym (ap (λ t. cond t 0 1) (eq-eqb x x refl))

pub eq_exchanged : (x y : ℕ) → apply_of Eq x y 0 ≡ apply_of Eq y x 0
unfolding apply_of
eq_exchanged x y = ap one_if (same_tests x y y x (λ e. sym e) (λ e. sym e))

pub ne_exchanged : (x y : ℕ) → apply_of Ne x y 0 ≡ apply_of Ne y x 0
unfolding apply_of
ne_exchanged x y = ap (λ t. cond t 0 1) (same_tests x y y x (λ e. sym e) (λ e. sym e))

-- x + c is d where x is d - c
pub eq_sum : (x c d : ℕ) → x < words → c < words → d < words → apply_of Eq x (apply_of Sub d c 0) 0 ≡ apply_of Eq (apply_of Add x c 0) d 0
unfolding apply_of
eq_sum x c d l m k = ap one_if (same_tests x ((d + words - c) % words) ((x + c) % words) d (λ e. omega arith) (λ e. omega arith))

pub ne_sum : (x c d : ℕ) → x < words → c < words → d < words → apply_of Ne x (apply_of Sub d c 0) 0 ≡ apply_of Ne (apply_of Add x c 0) d 0
unfolding apply_of
ne_sum x c d l m k = ap (λ t. cond t 0 1) (same_tests x ((d + words - c) % words) ((x + c) % words) d (λ e. omega arith) (λ e. omega arith))

-- ---- words that are 0 or 1

pub eq_one : (x : ℕ) → x ≤ 1 → x ≡ apply_of Eq x 1 0
unfolding apply_of
eq_one zero l = refl
eq_one (suc zero) l = refl
eq_one (suc (suc x)) l = absurd (omega arith)

pub eq_more : (x d : ℕ) → x ≤ 1 → d ≢ 0 → d ≢ 1 → 0 ≡ apply_of Eq x d 0
unfolding apply_of
eq_more zero d l m k = sym (ap one_if (ne_eqb 0 d (λ e. m (sym e))))
eq_more (suc zero) d l m k = sym (ap one_if (ne_eqb 1 d (λ e. k (sym e))))
eq_more (suc (suc x)) d l m k = absurd (omega arith)

pub ne_zero : (x : ℕ) → x ≤ 1 → x ≡ apply_of Ne x 0 0
unfolding apply_of
ne_zero zero l = refl
ne_zero (suc zero) l = refl
ne_zero (suc (suc x)) l = absurd (omega arith)

pub ne_one : (x : ℕ) → x ≤ 1 → apply_of Eq x 0 0 ≡ apply_of Ne x 1 0
unfolding apply_of
ne_one zero l = refl
ne_one (suc zero) l = refl
ne_one (suc (suc x)) l = absurd (omega arith)

pub ne_more : (x d : ℕ) → x ≤ 1 → d ≢ 0 → d ≢ 1 → 1 ≡ apply_of Ne x d 0
unfolding apply_of
ne_more zero d l m k = sym (ap (λ t. cond t 0 1) (ne_eqb 0 d (λ e. m (sym e))))
ne_more (suc zero) d l m k = sym (ap (λ t. cond t 0 1) (ne_eqb 1 d (λ e. k (sym e))))
ne_more (suc (suc x)) d l m k = absurd (omega arith)

-- ---- negations

pub not_eq : (x y : ℕ) → apply_of Ne x y 0 ≡ apply_of Eq (apply_of Eq x y 0) 0 0
unfolding apply_of
not_eq x y = by (eqb x y)
  where
    by : (b : Bool) → cond b 0 1 ≡ one_if (eqb (one_if b) 0)
    by true = refl
    by false = refl

pub not_ne : (x y : ℕ) → apply_of Eq x y 0 ≡ apply_of Eq (apply_of Ne x y 0) 0 0
unfolding apply_of
not_ne x y = by (eqb x y)
  where
    by : (b : Bool) → one_if b ≡ one_if (eqb (cond b 0 1) 0)
    by true = refl
    by false = refl

-- ---- orders

pub ltu_itself : (x : ℕ) → 0 ≡ apply_of Ltu x x 0
unfolding apply_of
ltu_itself x = not_below x x (omega arith)

pub ltu_least : (x : ℕ) → 0 ≡ apply_of Ltu x 0 0
unfolding apply_of
ltu_least x = not_below x 0 (omega arith)

pub ltu_greatest : (x : ℕ) → x < words → 0 ≡ apply_of Ltu 4294967295 x 0
unfolding apply_of
ltu_greatest x l = not_below 4294967295 x (omega arith)

pub lts_itself : (x : ℕ) → 0 ≡ apply_of Lts x x 0
unfolding apply_of
lts_itself x = not_below (rank x) (rank x) (omega arith)

pub lts_least : (x : ℕ) → 0 ≡ apply_of Lts x 2147483648 0
unfolding apply_of
lts_least x = not_below (rank x) 0 (omega arith)

pub lts_greatest : (x : ℕ) → x < words → 0 ≡ apply_of Lts 2147483647 x 0
unfolding apply_of
lts_greatest x l = not_below 4294967295 (rank x) (omega arith)

pub ltu_order : IsOrder Ltu 0 4294967295
unfolding apply_of
ltu_order = record {
  plain = refl;
  one_less = λ a w n l m k e. opposite a w n a (λ h. omega arith) (λ h. omega arith);
  one_more = λ w b n l m k e. opposite w b b n (λ h. omega arith) (λ h. omega arith);
}

pub lts_order : IsOrder Lts 2147483648 2147483647
unfolding apply_of
lts_order = record {
  plain = refl;
  one_less = λ a w n l m k e. opposite (rank a) (rank w) (rank n) (rank a) (λ h. omega arith) (λ h. omega arith);
  one_more = λ w b n l m k e. opposite (rank w) (rank b) (rank b) (rank n) (λ h. omega arith) (λ h. omega arith);
}

-- ---- the lesser and the greater

pub rank_once : (x y : ℕ) → x < words → y < words → rank x ≡ rank y → x ≡ y
rank_once x y l m e = omega arith

pub mins_itself : (x : ℕ) → x ≡ apply_of Mins x x 0
unfolding apply_of
mins_itself x = same_if (nat_lt (rank x) (rank x)) x

pub maxs_itself : (x : ℕ) → x ≡ apply_of Maxs x x 0
unfolding apply_of
maxs_itself x = same_if (nat_lt (rank x) (rank x)) x

-- which of two is chosen by a strict order is the same whichever comes first
pub mins_exchanged : (x y : ℕ) → x < words → y < words → apply_of Mins x y 0 ≡ apply_of Mins y x 0
unfolding apply_of
mins_exchanged x y l m =
    ⊎_elim
    (λ e. subst (λ z. cond (nat_lt (rank z) (rank x)) z x ≡ cond (nat_lt (rank x) (rank z)) x z) (rank_once x y l m e) refl)
    (λ o. ⊎_elim
    (λ h. ap (λ t. cond t y x) (le-ltb (rank y) (rank x) (omega arith)) ∙ sym (ap (λ t. cond t x y) (lt-ltb (rank x) (rank y) h)))
    (λ h. ap (λ t. cond t y x) (lt-ltb (rank y) (rank x) h) ∙ sym (ap (λ t. cond t x y) (le-ltb (rank x) (rank y) (omega arith))))
    o)
    (cases_order (rank x) (rank y))

pub maxs_exchanged : (x y : ℕ) → x < words → y < words → apply_of Maxs x y 0 ≡ apply_of Maxs y x 0
unfolding apply_of
maxs_exchanged x y l m =
    ⊎_elim
    (λ e. subst (λ z. cond (nat_lt (rank x) (rank z)) z x ≡ cond (nat_lt (rank z) (rank x)) x z) (rank_once x y l m e) refl)
    (λ o. ⊎_elim
    (λ h. ap (λ t. cond t y x) (lt-ltb (rank x) (rank y) h) ∙ sym (ap (λ t. cond t x y) (le-ltb (rank y) (rank x) (omega arith))))
    (λ h. ap (λ t. cond t y x) (le-ltb (rank x) (rank y) (omega arith)) ∙ sym (ap (λ t. cond t x y) (lt-ltb (rank y) (rank x) h)))
    o)
    (cases_order (rank x) (rank y))

-- ---- tests of 0

pub tested_is : (x : ℕ) → nat_lt 0 x ≡ nat_lt 0 (apply_of Ne x 0 0)
unfolding apply_of
tested_is zero = refl
tested_is (suc x) = lt-ltb 0 (suc x) (omega arith) ∙ sym (ap (λ t. nat_lt 0 (cond t 0 1)) (ne_eqb (suc x) 0 (λ e. omega arith)))

pub negation_is : (x : ℕ) → apply_of Eq x 0 0 ≡ one_if (not (nat_lt 0 x))
unfolding apply_of
negation_is zero = refl
negation_is (suc x) = ap one_if (ne_eqb (suc x) 0 (λ e. omega arith)) ∙ sym (ap (λ t. one_if (not t)) (lt-ltb 0 (suc x) (omega arith)))

pub truth_is : (x : ℕ) → apply_of Ne x 0 0 ≡ one_if (nat_lt 0 x)
unfolding apply_of
truth_is zero = refl
truth_is (suc x) = ap (λ t. cond t 0 1) (ne_eqb (suc x) 0 (λ e. omega arith)) ∙ sym (ap one_if (lt-ltb 0 (suc x) (omega arith)))
