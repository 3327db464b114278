-- Lists, sums, counts and maxima over the numbers below a bound, from 0 on.
use Rattle.std.specs.Prelude.{ℕ, zero, suc, ◌+◌, max, Bool, List, [], ◌++◌, if◌then◌else◌}

-- the concatenated lists of the numbers below n
unfoldable pub lists_below : {T : Type 0} → (ℕ → List T) → ℕ → List T
lists_below f zero = []
lists_below f (suc n) = lists_below f n ++ f n

-- the sum of the counts of the numbers below n
unfoldable pub sum_below : (ℕ → ℕ) → ℕ → ℕ
sum_below f zero = 0
sum_below f (suc n) = sum_below f n + f n

-- the number of the numbers below n that pass the test
abbrev pub count_below : (ℕ → Bool) → ℕ → ℕ
count_below test n = sum_below (λ k. if test k then 1 else 0) n

-- the greatest of the counts of the numbers below n
unfoldable pub greatest_below : (ℕ → ℕ) → ℕ → ℕ
greatest_below f zero = 0
greatest_below f (suc n) = max (greatest_below f n) (f n)
