-- Facts on lists, and on the first place at which a test holds.
use Rattle.std.proofs.Common.{◌≡◌, ℕ, zero, suc, ◌+◌, ◌<◌, ◌≤◌, Bool, true, false, cond, List, [], ◌∷◌, take, Option, Some, None, Contains, refl, sym, ap, ◌∙◌, subst, arith, ⊎_elim, add-one}
use Rattle.std.specs.Prelude.{◌||◌, slice_get}
use Rattle.std.specs.Option.{option_or, is_some}
use Rattle.std.specs.List.{list_any}
use Rattle.std.proofs.lemmas.Bool.{cases_lt, or_parts, or_cases, or_left, or_right}
use Rattle.cg_model.specs.First.{first_such}
use Rattle.cg_overlap.proofs.Facts.{Contains-first, Contains-later, Contains-cases}
use Rattle.cg_check.specs.Rules.{first_below}
use Rattle.cg_model.proofs.Lookups.{Contains-nil}
use Rattle.cg_model.proofs.Options.{or_none}

-- ---- tests of some element

pub any_of : {X : Type 0} (t : X → Bool) (xs : List X) (x : X) → Contains xs x → t x ≡ true → list_any t xs ≡ true
any_of t [] x m h = absurd (Contains-nil x m)
any_of t (y ∷ ys) x m h = ⊎_elim (λ e. or_left _ _ (ap t e ∙ h)) (λ l. or_right _ _ (any_of t ys x l h)) (Contains-cases x y ys m)

pub any_in : {X : Type 0} (t : X → Bool) (xs : List X) → list_any t xs ≡ true → (x : X) × Contains xs x × (t x ≡ true)
any_in t [] h = let bad : false ≡ true = h in absurd (cc)
any_in t (y ∷ ys) h =
    ⊎_elim (λ e. (y, Contains-first y ys, e)) (λ l. let (x, m, e) = any_in t ys l in (x, Contains-later x y ys m, e)) (or_cases _ _ h)

pub any_not : {X : Type 0} (t : X → Bool) (xs : List X) (x : X) → Contains xs x → list_any t xs ≡ false → t x ≡ false
any_not t [] x m h = absurd (Contains-nil x m)
any_not t (y ∷ ys) x m h = ⊎_elim (λ e. ap t (sym e) ∙ (or_parts _ _ h).0) (λ l. any_not t ys x l (or_parts _ _ h).1) (Contains-cases x y ys m)

pub any_none : {X : Type 0} (t : X → Bool) (xs : List X) → ((x : X) → Contains xs x → t x ≡ false) → list_any t xs ≡ false
any_none t [] h = refl
any_none t (y ∷ ys) h = ap (λ b. b || list_any t ys) (h y (Contains-first y ys)) ∙ any_none t ys (λ x m. h x (Contains-later x y ys m))

-- ---- elements by number

-- an element of the first n is one of all, before n
pub taken_get : {X : Type 0} (xs : List X) (n i : ℕ) (x : X) → slice_get (take n xs) i ≡ Some x → (slice_get xs i ≡ Some x) × (i < n)
taken_get xs zero i x e = let bad : None ≡ Some x = e in absurd (cc)
taken_get [] (suc n) i x e = let bad : None ≡ Some x = e in absurd (cc)
taken_get (y ∷ ys) (suc n) zero x e = (e, omega arith)
taken_get (y ∷ ys) (suc n) (suc i) x e = let (a, b) = taken_get ys n i x e in (a, omega arith)

-- ---- first places

pub first_such_not : {X : Type 0} (t : X → Bool) (xs : List X) (x : X) → first_such t xs ≡ None → Contains xs x → t x ≡ false
first_such_not t [] x none m = absurd (Contains-nil x m)
first_such_not t (y ∷ ys) x none m =
    ⊎_elim (λ e. ap t (sym e) ∙ (none_here (t y) y (first_such t ys) none).0) (λ l. first_such_not t ys x (none_here (t y) y (first_such t ys) none).1 l) (Contains-cases x y ys m)
  where
    none_here : {X : Type 0} (b : Bool) (x : X) (o : Option X) → cond b (Some x) o ≡ None → (b ≡ false) × (o ≡ None)
    none_here true x o e = let bad : Some x ≡ None = e in ((cc), (cc))
    none_here false x o e = (refl, e)

-- ---- numbers below n

pub first_below_none : {X : Type 0} (f : ℕ → Option X) (n k : ℕ) → first_below f n ≡ None → k < n → f k ≡ None
unfolding first_below
first_below_none f zero k none l = absurd (omega arith)
first_below_none f (suc n) k none l =
    let parts = or_none (first_below f n) (f n) none in
    ⊎_elim (λ (h : k < n). first_below_none f n k parts.0 h) (λ (h : n ≤ k). let e : n ≡ k = omega arith in subst (λ z. f z ≡ None) e parts.1) (cases_lt k n)

pub first_below_same : {X : Type 0} (f g : ℕ → Option X) (n : ℕ) → ((k : ℕ) → k < n → f k ≡ g k) → first_below f n ≡ first_below g n
unfolding first_below
first_below_same f g zero h = refl
first_below_same f g (suc n) h =
    ap (λ o. option_or o (f n)) (first_below_same f g n (λ k l. h k (omega arith))) ∙ ap (option_or (first_below g n)) (h n (omega arith))

-- one more number, as at a step of a loop
pub first_below_more : {X : Type 0} (f : ℕ → Option X) (n : ℕ) → first_below f n ≡ None → f n ≡ None → first_below f (n + 1) ≡ None
unfolding first_below
first_below_more f n none here = rw add-one (ap (λ o. option_or o (f n)) none ∙ here)

-- the first that is found is that of all
pub first_below_found : {X : Type 0} (f : ℕ → Option X) (n k : ℕ) (x : X) → k < n → first_below f k ≡ None → f k ≡ Some x → first_below f n ≡ Some x
unfolding first_below
first_below_found f zero k x l none here = absurd (omega arith)
first_below_found f (suc n) k x l none here =
    ⊎_elim (λ (h : k < n). ap (λ o. option_or o (f n)) (first_below_found f n k x h none here))
    (λ (h : n ≤ k).
    let e : k ≡ n = omega arith in
    ap (λ o. option_or o (f n)) (subst (λ z. first_below f z ≡ None) e none) ∙ subst (λ z. f z ≡ Some x) e here)
    (cases_lt k n)

-- ---- a loop over the numbers below n, which looks at f k and returns what is there

pub first_below_start : {X : Type 0} (f : ℕ → Option X) → first_below f 0 ≡ None
unfolding first_below
first_below_start f = refl

none_of : {X : Type 0} (o : Option X) → is_some o ≡ false → o ≡ None
none_of None h = refl
none_of (Some x) h = let bad : true ≡ false = h in absurd (cc)

pub first_below_next : {X : Type 0} (f : ℕ → Option X) (k : ℕ) (o : Option X) → first_below f k ≡ None → o ≡ f k → is_some o ≡ false → first_below f (k + 1) ≡ None
first_below_next f k o none here missing = first_below_more f k none (sym here ∙ none_of o missing)

pub first_below_returned : {X : Type 0} (f : ℕ → Option X) (n k : ℕ) (o : Option X) → k < n → first_below f k ≡ None → o ≡ f k → is_some o ≡ true → o ≡ first_below f n
first_below_returned f n k None l none here found = let bad : false ≡ true = found in absurd (cc)
first_below_returned f n k (Some x) l none here found = sym (first_below_found f n k x l none (sym here))
