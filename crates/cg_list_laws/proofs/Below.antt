-- One more number, as at a step of a loop.
use Rattle.std.proofs.Common.{max, ◌≡◌, ℕ, ◌+◌, Bool, true, false, cond, List, ◌++◌, refl, ap, ◌∙◌, add-one, arith}
use Rattle.cg_list_laws.specs.Below.{lists_below, sum_below, count_below, greatest_below}

pub lists_below-more : {T : Type 0} (f : ℕ → List T) (n : ℕ) → lists_below f (n + 1) ≡ lists_below f n ++ f n
unfolding lists_below
lists_below-more f n = rw add-one refl

pub sum_below-more : (f : ℕ → ℕ) (n : ℕ) → sum_below f (n + 1) ≡ sum_below f n + f n
unfolding sum_below
sum_below-more f n = rw add-one refl

pub sum_below-none : (f : ℕ → ℕ) → sum_below f 0 ≡ 0
unfolding sum_below
sum_below-none f = refl

-- a number that passes the test, and one that doesn't
pub count_below-passed : (test : ℕ → Bool) (n : ℕ) → test n ≡ true → count_below test (n + 1) ≡ count_below test n + 1
count_below-passed test n e = sum_below-more (λ k. cond (test k) 1 0) n ∙ ap (λ b. count_below test n + cond b 1 0) e

pub count_below-failed : (test : ℕ → Bool) (n : ℕ) → test n ≡ false → count_below test (n + 1) ≡ count_below test n
count_below-failed test n e =
    let more : count_below test (n + 1) ≡ count_below test n + 0 = sum_below-more (λ k. cond (test k) 1 0) n ∙ ap (λ b. count_below test n + cond b 1 0) e in
    omega (arith, more)

pub greatest_below-more : (f : ℕ → ℕ) (n : ℕ) → greatest_below f (n + 1) ≡ max (greatest_below f n) (f n)
unfolding greatest_below
greatest_below-more f n = rw add-one refl
