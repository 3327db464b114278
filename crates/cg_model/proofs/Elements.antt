-- Elements of lists, and what holds of each.
use Rattle.std.proofs.Common.{◌≡◌, ℕ, zero, suc, ◌<◌, ◌||◌, ◌&&◌, List, [], ◌∷◌, map, take, Some, None, Bool, true, false, refl, ap, ◌∙◌, sym, arith}
use Rattle.std.specs.Prelude.{slice_get}
use Rattle.std.specs.List.{list_any, list_all}
use Rattle.std.proofs.lemmas.Bool.{or_parts, and_parts}

-- what no element passes, the one at i doesn't
pub any_false : {X : Type 0} (t : X → Bool) (xs : List X) (i : ℕ) (x : X) → slice_get xs i ≡ Some x → list_any t xs ≡ false → t x ≡ false
any_false t [] i x at none = let bad : None ≡ Some x = at in cc
any_false t (y ∷ ys) zero x at none = let same : y ≡ x = cc in ap t (sym same) ∙ (or_parts _ _ none).0
any_false t (y ∷ ys) (suc i) x at none = any_false t ys i x at (or_parts _ _ none).1

-- what each element passes, the one at i does
pub all_true : {X : Type 0} (t : X → Bool) (xs : List X) (i : ℕ) (x : X) → slice_get xs i ≡ Some x → list_all t xs ≡ true → t x ≡ true
all_true t [] i x at all = let bad : None ≡ Some x = at in cc
all_true t (y ∷ ys) zero x at all = let same : y ≡ x = cc in ap t (sym same) ∙ (and_parts _ _ all).0
all_true t (y ∷ ys) (suc i) x at all = all_true t ys i x at (and_parts _ _ all).1

-- each element passes, and so do all
pub list_all-each : {X : Type 0} (t : X → Bool) (xs : List X) → ((i : ℕ) (x : X) → slice_get xs i ≡ Some x → t x ≡ true) → list_all t xs ≡ true
list_all-each t [] h = refl
list_all-each t (x ∷ xs) h = ap (λ b. b && list_all t xs) (h 0 x refl) ∙ list_all-each t xs (λ i y at. h (suc i) y at)

found_later : {X : Type 0} (t : X → Bool) (x : X) (xs : List X) → ((i : ℕ) × ((y : X) × ((slice_get xs i ≡ Some y) × (t y ≡ true)))) → (i : ℕ) × ((y : X) × ((slice_get (x ∷ xs) i ≡ Some y) × (t y ≡ true)))
found_later t x xs h = (suc h.0, h.1)

found_by : {X : Type 0} (t : X → Bool) (x : X) (xs : List X) (b : Bool) → t x ≡ b → (b || list_any t xs) ≡ true
    → (list_any t xs ≡ true → (i : ℕ) × ((y : X) × ((slice_get xs i ≡ Some y) × (t y ≡ true)))) → (i : ℕ) × ((y : X) × ((slice_get (x ∷ xs) i ≡ Some y) × (t y ≡ true)))
found_by t x xs true is e later = (zero, (x, (refl, is)))
found_by t x xs false is e later = found_later t x xs (later e)

-- some element passes a test that any passes
pub any_true : {X : Type 0} (t : X → Bool) (xs : List X) → list_any t xs ≡ true → (i : ℕ) × ((x : X) × ((slice_get xs i ≡ Some x) × (t x ≡ true)))
any_true t [] e = let bad : false ≡ true = e in absurd (cc)
any_true t (x ∷ xs) e = found_by t x xs (t x) refl e (any_true t xs)

-- an element of a mapped list
pub map_get : {X Y : Type 0} (f : X → Y) (xs : List X) (i : ℕ) (y : Y) → slice_get (map f xs) i ≡ Some y → (x : X) × ((slice_get xs i ≡ Some x) × (f x ≡ y))
map_get f [] i y at = let bad : None ≡ Some y = at in absurd (cc)
map_get f (x ∷ xs) zero y at = (x, (refl, (cc)))
map_get f (x ∷ xs) (suc i) y at = map_get f xs i y at

-- two functions that agree on the items of a list map it alike
pub map_same : {X Y : Type 0} (f g : X → Y) (xs : List X) → ((p : ℕ) (x : X) → slice_get xs p ≡ Some x → f x ≡ g x) → map f xs ≡ map g xs
map_same f g [] h = refl
map_same f g (x ∷ xs) h = rw (h 0 x refl, map_same f g xs (λ p y. h (suc p) y)) refl

-- an element of the first n
pub take_get : {X : Type 0} (xs : List X) (n i : ℕ) (x : X) → slice_get xs i ≡ Some x → i < n → slice_get (take n xs) i ≡ Some x
take_get [] n i x at lt = let bad : None ≡ Some x = at in absurd (cc)
take_get (y ∷ ys) zero i x at lt = absurd (omega arith)
take_get (y ∷ ys) (suc n) zero x at lt = at
take_get (y ∷ ys) (suc n) (suc i) x at lt = take_get ys n i x at (omega arith)
