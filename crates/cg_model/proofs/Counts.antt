-- How many elements pass a test.
use Rattle.std.proofs.Common.{◌≡◌, ℕ, zero, suc, ◌+◌, ◌<◌, ◌≤◌, List, [], ◌∷◌, Some, None, Bool, true, false, cond, refl, ap, ◌∙◌, arith}
use Rattle.std.specs.Prelude.{slice_get, count_by}
use Rattle.std.proofs.lemmas.Bool.{false_from_ne_true}
use Rattle.std.proofs.lemmas.List.Recursion.{is_count_by}

abbrev count : {X : Type 0} → (X → Bool) → List X → ℕ
count t [] = 0
count t (x ∷ xs) = cond (t x) (1 + count t xs) (count t xs)

-- ---- two elements that pass are counted

counted : (b : Bool) (n m : ℕ) → m ≤ n → m ≤ cond b (1 + n) n
counted true n m h = omega arith
counted false n m h = h

counted_true : (b : Bool) (n m : ℕ) → b ≡ true → m ≤ n → 1 + m ≤ cond b (1 + n) n
counted_true true n m e h = omega arith
counted_true false n m e h = let bad : false ≡ true = e in absurd (cc)

pub one_counted : {X : Type 0} (t : X → Bool) (xs : List X) (p : ℕ) (x : X) → slice_get xs p ≡ Some x → t x ≡ true → 1 ≤ count t xs
one_counted t [] p x at passes = let bad : None ≡ Some x = at in absurd (cc)
one_counted t (y ∷ ys) zero x at passes = let same : y ≡ x = cc in counted_true (t y) (count t ys) 0 (ap t same ∙ passes) (omega arith)
one_counted t (y ∷ ys) (suc p) x at passes = counted (t y) (count t ys) 1 (one_counted t ys p x at passes)

two_counted : {X : Type 0} (t : X → Bool) (xs : List X) (p q : ℕ) (x y : X) → slice_get xs p ≡ Some x → t x ≡ true → slice_get xs q ≡ Some y → t y ≡ true → p < q → 2 ≤ count t xs
two_counted t [] p q x y at passes at' passes' lt = let bad : None ≡ Some x = at in absurd (cc)
two_counted t (z ∷ zs) p zero x y at passes at' passes' lt = absurd (omega arith)
two_counted t (z ∷ zs) zero (suc q) x y at passes at' passes' lt = let same : z ≡ x = cc in counted_true (t z) (count t zs) 1 (ap t same ∙ passes) (one_counted t zs q y at' passes')
two_counted t (z ∷ zs) (suc p) (suc q) x y at passes at' passes' lt = counted (t z) (count t zs) 2 (two_counted t zs p q x y at passes at' passes' (omega arith))

pub count_by-two : {X : Type 0} (t : X → Bool) (xs : List X) (p q : ℕ) (x y : X) → slice_get xs p ≡ Some x → t x ≡ true → slice_get xs q ≡ Some y → t y ≡ true → p < q → 2 ≤ count_by t xs
count_by-two t xs p q x y at passes at' passes' lt = let same = is_count_by (count t) t refl (λ _ _. refl) xs in let two = two_counted t xs p q x y at passes at' passes' lt in omega (arith, same, two)

-- ---- a test that passes at one place at most

count-none : {X : Type 0} (t : X → Bool) (xs : List X) → ((i : ℕ) (x : X) → slice_get xs i ≡ Some x → t x ≡ false) → count t xs ≡ 0
count-none t [] h = refl
count-none t (x ∷ xs) h = ap (λ b. cond b (1 + count t xs) (count t xs)) (h 0 x refl) ∙ count-none t xs (λ i y at. h (suc i) y at)

count-next : {X : Type 0} (t : X → Bool) (x : X) (xs : List X) (b : Bool) → t x ≡ b → ((i : ℕ) (y : X) → slice_get xs i ≡ Some y → t x ≡ true → t y ≡ true → ⊥) → count t xs ≤ 1 → cond b (1 + count t xs) (count t xs) ≤ 1
count-next t x xs true here apart rest = let none = count-none t xs (λ i y at. false_from_ne_true (t y) (apart i y at here)) in omega (arith, none)
count-next t x xs false here apart rest = rest

count-one : {X : Type 0} (t : X → Bool) (xs : List X) → ((p q : ℕ) (x y : X) → slice_get xs p ≡ Some x → t x ≡ true → slice_get xs q ≡ Some y → t y ≡ true → p ≡ q) → count t xs ≤ 1
count-one t [] h = omega arith
count-one t (x ∷ xs) h = count-next t x xs (t x) refl
    (λ i y at first second. let same : 0 ≡ suc i = h 0 (suc i) x y refl first at second in absurd (omega arith))
    (count-one t xs (λ p q y z at passes at' passes'. let same : suc p ≡ suc q = h (suc p) (suc q) y z at passes at' passes' in omega arith))

pub count_by-one : {X : Type 0} (t : X → Bool) (xs : List X) → ((p q : ℕ) (x y : X) → slice_get xs p ≡ Some x → t x ≡ true → slice_get xs q ≡ Some y → t y ≡ true → p ≡ q) → count_by t xs ≤ 1
count_by-one t xs h = let same = is_count_by (count t) t refl (λ _ _. refl) xs in let one = count-one t xs h in omega (arith, same, one)
