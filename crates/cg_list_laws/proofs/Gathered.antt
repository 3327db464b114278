-- Counts and greatest numbers, at a step of a loop.
use Rattle.std.proofs.Common.{◌≡◌, ℕ, ◌+◌, max, Bool, true, false, cond, refl, sym, ap, ◌∙◌, arith, rules}
use Rattle.std.specs.Ordering.{ord_max, nat_cmp}
use Rattle.std.proofs.lemmas.Grind.{common_steps}
use Rattle.cg_list_laws.specs.Below.{count_below, greatest_below}
use Rattle.cg_list_laws.proofs.Below.{sum_below-none, count_below-passed, count_below-failed, greatest_below-more}

pub none_counted : (test : ℕ → Bool) → 0 ≡ count_below test 0
none_counted test = sym (sum_below-none (λ k. cond (test k) 1 0))

pub passed : (test : ℕ → Bool) (n count next : ℕ) → count ≡ count_below test n → test n ≡ true → next ≡ count + 1 → next ≡ count_below test (n + 1)
passed test n count next so_far passes e = e ∙ ap (λ z. z + 1) so_far ∙ sym (count_below-passed test n passes)

pub failed : (test : ℕ → Bool) (n count next : ℕ) → count ≡ count_below test n → test n ≡ false → next ≡ count → next ≡ count_below test (n + 1)
failed test n count next so_far fails e = e ∙ so_far ∙ sym (count_below-failed test n fails)

pub none_great : (f : ℕ → ℕ) → 0 ≡ greatest_below f 0
unfolding greatest_below
none_great f = refl

pub greater : (f : ℕ → ℕ) (n old here next : ℕ) → old ≡ greatest_below f n → here ≡ f n → next ≡ max old here → next ≡ greatest_below f (n + 1)
greater f n old here next so_far is e = e ∙ ap (λ z. max z here) so_far ∙ ap (λ z. max (greatest_below f n) z) is ∙ sym (greatest_below-more f n)

pub larger : (a b : ℕ) → ord_max nat_cmp a b ≡ max a b
larger a b = first_of (search rules, grind (arith, common_steps))
