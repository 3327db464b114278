-- Sums and tests over lists, and over ranges of numbers.
use Rattle.std.proofs.Common.{◌≡◌, ℕ, suc, ◌+◌, ◌<◌, Bool, true, false, cond, ltb, List, [], ◌∷◌, length, get_or, refl, sym, ap, ◌∙◌, arith, ⊎_elim}
use Rattle.std.specs.Prelude.{sum_by, All, ◌||◌}
use Rattle.std.specs.List.{range_with_len, list_any}
use Rattle.std.proofs.lemmas.Bool.{cases_Bool, lt-ltb}
use Rattle.std.proofs.lemmas.List.Sums.{sum_by-cons}
use Rattle.std.proofs.lemmas.List.Elements.{All-head, All-tail}

-- some element passes where the weights of those that pass sum to more than 0
pub any_weighted : {X : Type 0} (q : X → Bool) (w : X → ℕ) (xs : List X) → All (λ x. 0 < w x) xs → list_any q xs ≡ ltb 0 (sum_by (λ x. cond (q x) (w x) 0) xs)
any_weighted q w [] h = refl
any_weighted q w (x ∷ xs) h =
    let c = sum_by-cons (λ x. cond (q x) (w x) 0) x xs in
    let here = All-head (λ x. 0 < w x) x xs h in
    let rest = any_weighted q w xs (All-tail (λ x. 0 < w x) x xs h) in
    ⊎_elim
    (λ (a : q x ≡ true).
    let d : sum_by (λ x. cond (q x) (w x) 0) (x ∷ xs) ≡ w x + sum_by (λ x. cond (q x) (w x) 0) xs = c ∙ ap (λ b. cond b (w x) 0 + sum_by (λ x. cond (q x) (w x) 0) xs) a in
    ap (λ b. b || list_any q xs) a ∙ sym (lt-ltb 0 (sum_by (λ x. cond (q x) (w x) 0) (x ∷ xs)) (omega (arith, d, here))))
    (λ (a : q x ≡ false).
    let d : sum_by (λ x. cond (q x) (w x) 0) (x ∷ xs) ≡ 0 + sum_by (λ x. cond (q x) (w x) 0) xs = c ∙ ap (λ b. cond b (w x) 0 + sum_by (λ x. cond (q x) (w x) 0) xs) a in
    let e : sum_by (λ x. cond (q x) (w x) 0) (x ∷ xs) ≡ sum_by (λ x. cond (q x) (w x) 0) xs = omega (arith, d) in
    ap (λ b. b || list_any q xs) a ∙ rest ∙ ap (ltb 0) (sym e))
    (cases_Bool (q x))

-- a sum over the places of a list
pub sum_places : {X : Type 0} (f : ℕ → ℕ) (g : X → ℕ) (d : X) (xs : List X) (a : ℕ) → ((j i : ℕ) → i ≡ a + j → j < length xs → f i ≡ g (get_or xs j d)) →
    sum_by f (range_with_len a (length xs)) ≡ sum_by g xs
sum_places f g d [] a h = refl
sum_places f g d (x ∷ xs) a h =
    let c = sum_by-cons f a (range_with_len (a + 1) (length xs)) in
    let e = sum_by-cons g x xs in
    let here = h 0 a (omega arith) (omega arith) in
    let rest = sum_places f g d xs (a + 1) (λ j i k l. h (suc j) i (omega (arith, k)) (omega (arith, l))) in
    omega (arith, c, e, here, rest)
