-- The place of an item in lists one behind the other.
use Rattle.std.proofs.Common.{⊎_elim, ◌≡◌, ℕ, zero, suc, ◌+◌, ◌-◌, ◌<◌, ◌≤◌, List, [], ◌∷◌, ◌++◌, length, flat_map, Some, None, refl, ap, sym, ◌∙◌, arith, length-append}
use Rattle.std.specs.Prelude.{slice_get}
use Rattle.std.proofs.lemmas.Bool.{cases_lt}
use Rattle.std.proofs.lemmas.Option.{slice_get_within}

pub get_left : {Y : Type 0} (xs ys : List Y) (k : ℕ) → k < length xs → slice_get (xs ++ ys) k ≡ slice_get xs k
get_left [] ys k h = absurd (omega arith)
get_left (x ∷ xs) ys zero h = refl
get_left (x ∷ xs) ys (suc k) h = get_left xs ys k (omega arith)

pub get_right : {Y : Type 0} (xs ys : List Y) (n k : ℕ) → n ≡ length xs + k → slice_get (xs ++ ys) n ≡ slice_get ys k
get_right [] ys n k h = let same : n ≡ k = omega arith in ap (slice_get ys) same
get_right (x ∷ xs) ys zero k h = absurd (omega arith)
get_right (x ∷ xs) ys (suc n) k h = get_right xs ys n k (omega arith)

module _ {X Y : Type 0} (f : X → List Y) where
  -- how many items stand before those of number i
  abbrev pub start : List X → ℕ → ℕ
  start [] i = 0
  start (x ∷ xs) zero = 0
  start (x ∷ xs) (suc i) = length (f x) + start xs i

  -- item r is item j of number i
  pub record IsPlace (xs : List X) (r : ℕ) (y : Y) : Type 0 where
    pub i : ℕ
    pub j : ℕ
    pub x : X
    pub at : slice_get xs i ≡ Some x
    pub within : slice_get (f x) j ≡ Some y
    pub is : r ≡ start xs i + j

  later_place : (x : X) (xs : List X) (r k : ℕ) (y : Y) → r ≡ length (f x) + k → IsPlace xs k y → IsPlace (x ∷ xs) r y
  later_place x xs r k y h p = record {
    i = suc p.i;
    j = p.j;
    x = p.x;
    at = p.at;
    within = p.within;
    is = let is = p.is in omega (arith, is, h);
  }

  pub place : (xs : List X) (r : ℕ) (y : Y) → slice_get (flat_map f xs) r ≡ Some y → IsPlace xs r y
  place [] r y e = let bad : None ≡ Some y = e in absurd (cc)
  place (x ∷ xs) r y e =
      ⊎_elim
      (λ h. record {
        i = zero;
        j = r;
        x = x;
        at = refl;
        within = sym (get_left (f x) (flat_map f xs) r h) ∙ e;
        is = omega arith;
      })
      (λ h.
      let split : r ≡ length (f x) + (r - length (f x)) = omega (arith, h) in
      later_place x xs r (r - length (f x)) y split (place xs (r - length (f x)) y (sym (get_right (f x) (flat_map f xs) r (r - length (f x)) split) ∙ e)))
      (cases_lt r (length (f x)))

  pub get_at : (xs : List X) (i j : ℕ) (x : X) (y : Y) → slice_get xs i ≡ Some x → slice_get (f x) j ≡ Some y → slice_get (flat_map f xs) (start xs i + j) ≡ Some y
  get_at [] i j x y at within = let bad : None ≡ Some x = at in absurd (cc)
  get_at (z ∷ zs) zero j x y at within =
      let same : z ≡ x = cc in
      let here : slice_get (f z) j ≡ Some y = ap (λ w. slice_get (f w) j) same ∙ within in
      let n : 0 + j ≡ j = omega arith in
      ap (slice_get (f z ++ flat_map f zs)) n ∙ get_left (f z) (flat_map f zs) j (slice_get_within (f z) j y here) ∙ here
  get_at (z ∷ zs) (suc i) j x y at within =
      get_right (f z) (flat_map f zs) (length (f z) + start zs i + j) (start zs i + j) (omega arith) ∙ get_at zs i j x y at within

  pub same_place : (xs : List X) (i k j l : ℕ) (x y : X) → slice_get xs i ≡ Some x → slice_get xs k ≡ Some y → j < length (f x) → l < length (f y)
      → start xs i + j ≡ start xs k + l → (i ≡ k) × (j ≡ l)
  same_place [] i k j l x y at at' h h' e = let bad : None ≡ Some x = at in absurd (cc)
  same_place (z ∷ zs) zero zero j l x y at at' h h' e = (refl, omega arith)
  same_place (z ∷ zs) zero (suc k) j l x y at at' h h' e =
      let same : z ≡ x = cc in let long : length (f z) ≡ length (f x) = ap (λ w. length (f w)) same in absurd (omega (arith, long))
  same_place (z ∷ zs) (suc i) zero j l x y at at' h h' e =
      let same : z ≡ y = cc in let long : length (f z) ≡ length (f y) = ap (λ w. length (f w)) same in absurd (omega (arith, long))
  same_place (z ∷ zs) (suc i) (suc k) j l x y at at' h h' e =
      let rest = same_place zs i k j l x y at at' h h' (omega (arith, e)) in
      let i' = rest.0 in (ap suc i', rest.1)

  pub start_within : (xs : List X) (i : ℕ) (x : X) → slice_get xs i ≡ Some x → start xs i + length (f x) ≤ length (flat_map f xs)
  start_within [] i x at = let bad : None ≡ Some x = at in absurd (cc)
  start_within (z ∷ zs) zero x at =
      let same : z ≡ x = cc in
      let long : length (f z) ≡ length (f x) = ap (λ w. length (f w)) same in
      let all = length-append (f z) (flat_map f zs) in
      omega (arith, long, all)
  start_within (z ∷ zs) (suc i) x at =
      let rest = start_within zs i x at in let all = length-append (f z) (flat_map f zs) in omega (arith, rest, all)
