-- Sums and counts that are zero.
use Rattle.std.proofs.Common.{◌≡◌, ℕ, ◌<◌, ◌≤◌, Bool, true, false, cond, List, length, get_or, subst, arith, ⊎_elim}
use Rattle.std.specs.Prelude.{sum_by, count_by}
use Rattle.std.proofs.lemmas.Bool.{cases_Bool}
use Rattle.std.proofs.lemmas.List.Sums.{get_or-le-sum_by}

pub count_zero : {X : Type 0} (p : X → Bool) (xs : List X) (i : ℕ) (d : X) → i < length xs → count_by p xs ≡ 0 → p (get_or xs i d) ≡ false
count_zero p xs i d l h =
    let a : cond (p (get_or xs i d)) 1 0 ≤ count_by p xs = get_or-le-sum_by (λ x. cond (p x) 1 0) xs i d l in
    ⊎_elim (λ (t : p (get_or xs i d) ≡ true). let b : 1 ≤ count_by p xs = subst (λ z. cond z 1 0 ≤ count_by p xs) t a in absurd (omega (arith, b, h))) (λ f. f) (cases_Bool (p (get_or xs i d)))
