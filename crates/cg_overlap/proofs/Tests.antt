-- Tests over finite ranges and lists, each with what it shows: the parts of the tests that decide worked rows.
use Rattle.std.proofs.Common.{◌≡◌, ℕ, zero, suc, ◌<◌, Bool, true, false, List, [], ◌∷◌, length, Contains, refl, sym, ◌∙◌, subst, arith, ⊎_elim, eqb-true, eq-eqb}
use Rattle.std.specs.Prelude.{◌&&◌, ◌||◌, eqb, if◌then◌else◌, not, slice_index, slice_index_or}
use Rattle.std.proofs.lemmas.Bool.{and_parts, cond-true, cases_lt, or_cases, or_left, or_right}
use Rattle.cg_model.specs.Canonical.{any_below}
use Rattle.cg_model.specs.declared.array.Kind.{Kind}
use Rattle.cg_model.specs.declared.array.Kind.TheVariants.{Wire, Register, Port, Out}

-- ---- lists

-- each test holds
unfoldable pub all_true : List Bool → Bool
all_true [] = true
all_true (b ∷ bs) = b && all_true bs

pub part : (bs : List Bool) (k : ℕ) → all_true bs ≡ true → slice_index_or bs k true ≡ true
unfolding all_true
part [] k h = refl
part (b ∷ bs) zero h = (and_parts _ _ h).0
part (b ∷ bs) (suc k) h = part bs k (and_parts _ _ h).1

-- each element passes
unfoldable pub every : {X : Type 0} → (X → Bool) → List X → Bool
every f [] = true
every f (x ∷ xs) = f x && every f xs

pub every_it : {X : Type 0} (f : X → Bool) (xs : List X) (x : X) → every f xs ≡ true → Contains xs x → f x ≡ true
unfolding every
every_it f [] x h m = absurd (let l = m.1 in omega arith)
every_it f (y ∷ ys) x h (zero, l, e) = subst (λ z. f z ≡ true) e (and_parts _ _ h).0
every_it f (y ∷ ys) x h (suc k, l, e) = every_it f ys x (and_parts _ _ h).1 (k, omega (arith, l), e)

pub every_at : (f : ℕ → Bool) (xs : List ℕ) (k : ℕ) → every f xs ≡ true → k < length xs → f (slice_index xs k) ≡ true
unfolding every
every_at f [] k h l = absurd (omega arith)
every_at f (x ∷ xs) zero h l = (and_parts _ _ h).0
every_at f (x ∷ xs) (suc k) h l = every_at f xs k (and_parts _ _ h).1 (omega arith)

-- the number is in the list
unfoldable pub has : List ℕ → ℕ → Bool
has [] q = false
has (x ∷ xs) q = eqb x q || has xs q

pub has_it : (xs : List ℕ) (q : ℕ) → has xs q ≡ true → Contains xs q
unfolding has
has_it [] q h = absurd (cc)
has_it (x ∷ xs) q h = ⊎_elim (λ e. (0, omega arith, eqb-true _ _ e)) (λ e. let r = has_it xs q e in (suc r.0, omega (arith, r.1), r.2)) (or_cases _ _ h)

-- ---- ranges

-- each number below n passes
unfoldable pub all_below : (ℕ → Bool) → ℕ → Bool
all_below f zero = true
all_below f (suc n) = f n && all_below f n

pub all_below_it : (f : ℕ → Bool) (n k : ℕ) → all_below f n ≡ true → k < n → f k ≡ true
unfolding all_below
all_below_it f zero k h l = absurd (omega arith)
all_below_it f (suc n) k h l =
    ⊎_elim (λ m. all_below_it f n k (and_parts _ _ h).1 m) (λ m. let e : n ≡ k = omega arith in subst (λ z. f z ≡ true) e (and_parts _ _ h).0) (cases_lt k n)

-- some number below n passes
pub any_below_it : (f : ℕ → Bool) (n : ℕ) → any_below f n ≡ true → (k : ℕ) × (k < n) × (f k ≡ true)
unfolding any_below
any_below_it f zero h = absurd (cc)
any_below_it f (suc n) h = ⊎_elim (λ t. let r = any_below_it f n t in (r.0, omega (arith, r.1), r.2)) (λ t. (n, omega arith, t)) (or_cases _ _ h)

-- ---- choices

-- b holds where a does
abbrev pub given : Bool → Bool → Bool
given a b = if a then b else true

pub given_it : (a b : Bool) → given a b ≡ true → a ≡ true → b ≡ true
given_it a b h e = sym (cond-true a b true e) ∙ h

pub fails_it : (b : Bool) → not b ≡ true → b ≡ true → ⊥
fails_it true h e = cc
fails_it false h e = cc

abbrev pub is_kind : Kind → Kind → Bool
is_kind Wire Wire = true
is_kind Register Register = true
is_kind Port Port = true
is_kind Out Out = true
is_kind _ _ = false

pub kind_is : (a b : Kind) → is_kind a b ≡ true → a ≡ b
kind_is Wire Wire h = refl
kind_is Wire Register h = absurd (cc)
kind_is Wire Port h = absurd (cc)
kind_is Wire Out h = absurd (cc)
kind_is Register Wire h = absurd (cc)
kind_is Register Register h = refl
kind_is Register Port h = absurd (cc)
kind_is Register Out h = absurd (cc)
kind_is Port Wire h = absurd (cc)
kind_is Port Register h = absurd (cc)
kind_is Port Port h = refl
kind_is Port Out h = absurd (cc)
kind_is Out Wire h = absurd (cc)
kind_is Out Register h = absurd (cc)
kind_is Out Port h = absurd (cc)
kind_is Out Out h = refl

-- what isn't found isn't there
pub has_of : (xs : List ℕ) (q : ℕ) → Contains xs q → has xs q ≡ true
unfolding has
has_of [] q h = absurd (let l = h.1 in omega arith)
has_of (x ∷ xs) q (zero, l, e) = or_left _ _ (eq-eqb _ _ e)
has_of (x ∷ xs) q (suc k, l, e) = or_right _ _ (has_of xs q (k, omega (arith, l), e))
