-- Reading a list after a write, and the lists of numbers.
use Rattle.std.proofs.Common.{◌≡◌, ℕ, zero, suc, ◌+◌, ◌<◌, Bool, true, false, List, [], ◌∷◌, length, set, Some, refl, sym, ap, ◌∙◌, subst, arith, ⊎_elim}
use Rattle.std.specs.Prelude.{All, Contains, slice_get, filter}
use Rattle.std.specs.List.{range_with_len}
use Rattle.std.proofs.lemmas.Bool.{cases_Bool}
use Rattle.std.proofs.lemmas.List.FromFn.{length-range_with_len, get_or-range_with_len}

pub get_set_same : {X : Type 0} (xs : List X) (i : ℕ) (x : X) → i < length xs → slice_get (set xs i x) i ≡ Some x
get_set_same [] i x l = absurd (omega arith)
get_set_same (y ∷ ys) zero x l = refl
get_set_same (y ∷ ys) (suc i) x l = get_set_same ys i x (omega arith)

pub get_set_other : {X : Type 0} (xs : List X) (i j : ℕ) (x : X) → (j ≡ i → ⊥) → slice_get (set xs i x) j ≡ slice_get xs j
get_set_other [] i j x h = refl
get_set_other (y ∷ ys) zero zero x h = absurd (h refl)
get_set_other (y ∷ ys) zero (suc j) x h = refl
get_set_other (y ∷ ys) (suc i) zero x h = refl
get_set_other (y ∷ ys) (suc i) (suc j) x h = get_set_other ys i j x (λ e. h (ap suc e))

pub filter_has : (p : ℕ → Bool) (xs : List ℕ) (x : ℕ) → p x ≡ true → Contains xs x → Contains (filter p xs) x
filter_has p [] x h m = absurd (omega (arith, m.1))
filter_has p (y ∷ ys) x h (zero, l, e) = let z : p y ≡ true = subst (λ w. p w ≡ true) (sym e) h in rw z (0, omega arith, e)
filter_has p (y ∷ ys) x h (suc k, l, e) =
    let m = filter_has p ys x h (k, omega arith, e) in
    ⊎_elim (λ (a : p y ≡ true). rw a (suc m.0, omega (arith, m.1), m.2)) (λ (a : p y ≡ false). rw a m) (cases_Bool (p y))

pub range_has : (n i : ℕ) → i < n → Contains (range_with_len 0 n) i
range_has n i l =
    let len = length-range_with_len 0 n in
    let z : 0 + i ≡ i = omega arith in
    (i, omega arith, get_or-range_with_len 0 n i i l ∙ z)

pub range_below : (n : ℕ) → All (λ e. e < n) (range_with_len 0 n)
range_below n = λ k d l. let len = length-range_with_len 0 n in let a : k < n = omega arith in let e = get_or-range_with_len 0 n k d a in omega (arith, e, a)
