-- Sums below a bound.
use Rattle.std.proofs.Common.{◌≡◌, ℕ, zero, suc, ◌+◌, ◌*◌, ◌<◌, ◌≤◌, refl, ap, ap₂, arith}
use Rattle.cg_model.proofs.Sums as sums
use Rattle.cg_bound_registers.specs.Pressure.{total}

-- as other crates sum
pub total_is : (n : ℕ) (f : ℕ → ℕ) → total n f ≡ sums.total n f
total_is zero f = refl
total_is (suc n) f = ap (λ z. z + f n) (total_is n f)

pub total_same : (n : ℕ) (f g : ℕ → ℕ) → ((k : ℕ) → k < n → f k ≡ g k) → total n f ≡ total n g
total_same zero f g h = refl
total_same (suc n) f g h = ap₂ (λ a b. a + b) (total_same n f g (λ k l. h k (omega arith))) (h n (omega arith))

pub total_le : (n : ℕ) (f g : ℕ → ℕ) → ((k : ℕ) → k < n → f k ≤ g k) → total n f ≤ total n g
total_le zero f g h = omega arith
total_le (suc n) f g h = omega (arith, total_le n f g (λ k l. h k (omega arith)), h n (omega arith))

pub total_zero : (n : ℕ) (f : ℕ → ℕ) → ((k : ℕ) → k < n → f k ≡ 0) → total n f ≡ 0
total_zero n f h = let e = total_is n f in let z = sums.total_zero n f h in omega arith

pub total_one : (n k : ℕ) (f : ℕ → ℕ) → k < n → ((j : ℕ) → j < n → (j ≡ k → ⊥) → f j ≡ 0) → total n f ≡ f k
total_one n k f l h = let e = total_is n f in let o = sums.total_one n k f l h in omega arith

pub total_sum : (n : ℕ) (f g : ℕ → ℕ) → total n f + total n g ≡ total n (λ k. f k + g k)
total_sum zero f g = refl
total_sum (suc n) f g = omega (arith, total_sum n f g)

pub total_times : (n c : ℕ) (f : ℕ → ℕ) → total n (λ k. c * f k) ≡ c * total n f
total_times zero c f = omega arith
total_times (suc n) c f = omega (arith, total_times n c f)
