-- Sums of the values of a function at the numbers below one, as pairs and matchings count them.
use Rattle.std.proofs.Common.{ℕ, zero, suc, ◌+◌, ◌≡◌, ◌<◌, refl, ap₂, arith, ap, ⊎_elim, sym, ◌∙◌}
use Rattle.std.specs.Prelude.{◌⊎◌}
use Rattle.std.proofs.lemmas.Bool.{cases_eq}

abbrev pub total : ℕ → (ℕ → ℕ) → ℕ
total zero f = 0
total (suc n) f = total n f + f n

pub total_same : (n : ℕ) (f g : ℕ → ℕ) → ((k : ℕ) → k < n → f k ≡ g k) → total n f ≡ total n g
total_same zero f g h = refl
total_same (suc n) f g h = ap₂ (λ a b. a + b) (total_same n f g (λ k l. h k (omega arith))) (h n (omega arith))

pub total_zero : (n : ℕ) (f : ℕ → ℕ) → ((k : ℕ) → k < n → f k ≡ 0) → total n f ≡ 0
total_zero zero f h = refl
total_zero (suc n) f h = omega (arith, total_zero n f (λ k l. h k (omega arith)), h n (omega arith))

pub total_one : (n k : ℕ) (f : ℕ → ℕ) → k < n → ((j : ℕ) → j < n → (j ≡ k → ⊥) → f j ≡ 0) → total n f ≡ f k
total_one zero k f l h = absurd (omega arith)
total_one (suc n) k f l h =
    ⊎_elim
    (λ (e : n ≡ k). total_last n k f e (total_zero n f (λ j b. h j (omega arith) (λ z. omega arith))))
    (λ e. omega (arith, total_one n k f (omega (arith, other n k l e)) (λ j b. h j (omega arith)), h n (omega arith) e))
    (cases_eq n k)
  where
    total_last : (n k : ℕ) (f : ℕ → ℕ) → n ≡ k → total n f ≡ 0 → total n f + f n ≡ f k
    total_last n k f e z = let q = ap f e in omega arith

    other : (n k : ℕ) → k < suc n → (n ≡ k → ⊥) → k < n
    other n k l e = omega arith

pub total_sum : (n : ℕ) (f g : ℕ → ℕ) → total n f + total n g ≡ total n (λ k. f k + g k)
total_sum zero f g = refl
total_sum (suc n) f g = omega (arith, total_sum n f g)

-- the order of two sums is free
pub total_swap : (m n : ℕ) (f : ℕ → ℕ → ℕ) → total m (λ j. total n (f j)) ≡ total n (λ k. total m (λ j. f j k))
total_swap zero n f = sym (total_zero n (λ k. 0) (λ k l. refl))
total_swap (suc m) n f = ap (λ z. z + total n (f m)) (total_swap m n f) ∙ total_sum n (λ k. total m (λ j. f j k)) (f m)
