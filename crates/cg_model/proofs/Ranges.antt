-- Ranges of numbers, and sums over them.
use Rattle.std.proofs.Common.{◌≡◌, ℕ, zero, suc, ◌+◌, [], ◌∷◌, ◌++◌, ap, ◌∙◌, arith, ◌<◌, ◌≤◌, List, length, get_or, eqb, ⊎_elim, eqb-true, refl, ◌-◌, Contains}
use Rattle.std.specs.List.{range_with_len}
use Rattle.std.specs.Prelude.{slice_index, sum_by}
use Rattle.std.proofs.lemmas.Bool.{cases_Bool}
use Rattle.std.proofs.lemmas.List.{get_or_default}
use Rattle.std.proofs.lemmas.Map.Steps.{length-le_from_distinct_below}
use Rattle.std.proofs.lemmas.Map.Keys.{IsDistinct-from_apart}
use Rattle.std.proofs.lemmas.Map.Views.{Contains-from_any}
use Rattle.std.proofs.lemmas.List.Sums.{sum_by-cons, sum_by_push}
use Rattle.std.proofs.lemmas.List.FromFn.{get_or-range_with_len, length-range_with_len}

pub range_more : (a n : ℕ) → range_with_len a (n + 1) ≡ range_with_len a n ++ (a + n) ∷ []
range_more a zero = let same : a ≡ a + 0 = omega arith in ap (λ k. k ∷ []) same
range_more a (suc n) =
    let more : suc n + 1 ≡ suc (n + 1) = omega arith in
    let last : a + 1 + n ≡ a + suc n = omega arith in
    ap (range_with_len a) more ∙ ap (λ xs. a ∷ xs) (range_more (a + 1) n) ∙ ap (λ k. a ∷ (range_with_len (a + 1) n ++ k ∷ [])) last

-- numbers below n of which no two are equal are at most n
pub pigeons : (n : ℕ) (xs : List ℕ) → ((i : ℕ) → i < length xs → slice_index xs i < n) → ((i j : ℕ) → i < j → j < length xs → slice_index xs i ≡ slice_index xs j → ⊥) → length xs ≤ n
pigeons n xs below apart =
    length-le_from_distinct_below xs n
    (IsDistinct-from_apart eqb xs (λ i j d l m. ⊎_elim (λ t. absurd (apart i j l m (get_or_default xs i 0 d (omega arith) ∙ eqb-true _ _ t ∙ get_or_default xs j d 0 m))) (λ t. t) (cases_Bool (eqb (get_or xs i d) (get_or xs j d)))))
    (λ q t. let (i, l, e) = Contains-from_any (λ x y. eqb-true x y) q xs t in let a = below i l in let b = get_or_default xs i q 0 l in omega arith)

pub sum_zero : (f : ℕ → ℕ) (xs : List ℕ) → ((i : ℕ) → f i ≡ 0) → sum_by f xs ≡ 0
sum_zero f [] h = refl
sum_zero f (x ∷ xs) h = let a = sum_by-cons f x xs in let c = sum_zero f xs h in let d = h x in omega (arith, a, c, d)

-- a number more
pub sum_more : (f : ℕ → ℕ) (n : ℕ) → sum_by f (range_with_len 0 (n + 1)) ≡ sum_by f (range_with_len 0 n) + f n
sum_more f n =
    let z : 0 + n ≡ n = omega arith in
    ap (sum_by f) (range_more 0 n) ∙ sum_by_push f (range_with_len 0 n) (0 + n) ∙ ap (λ k. sum_by f (range_with_len 0 n) + f k) z

pub Contains-range : (n v : ℕ) → Contains (range_with_len 0 n) v → v < n
Contains-range n v h =
    let l : h.0 < n = omega (arith, length-range_with_len 0 n, h.1) in omega (arith, get_or-range_with_len 0 n h.0 v l, h.2)
