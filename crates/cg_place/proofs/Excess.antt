-- The excess of a table of numbers is that of its places.
use Rattle.std.proofs.Common.{◌≡◌, ℕ, zero, suc, ◌+◌, ◌-◌, ◌*◌, ◌<◌, List, [], ◌∷◌, ◌++◌, length, map, refl, sym, ap, ◌∙◌, arith}
use Rattle.std.specs.Prelude.{sum_by, slice_index}
use Rattle.std.specs.List.{range_with_len}
use Rattle.std.proofs.lemmas.List.Sums.{sum_by-cons, sum_by-append, sum_by_push}
use Rattle.std.proofs.lemmas.List.FromFn.{fill_by_all}
use Rattle.std.proofs.Math.Nat.{suc-mul}
use Rattle.cg_model.specs.declared.mapping.Place.{Place}
use Rattle.cg_model.specs.Array.{Arch}
use Rattle.cg_place.specs.Counts.{excess_at, unit_excess}
use Rattle.cg_place.specs.Reservations.{over, IsTable}
use Rattle.cg_place.proofs.Offering.{range_append}
use Rattle.cg_model.proofs.Ranges.{range_more}

-- sums over ranges of which each number gives the same
pub same_sums : (g h : ℕ → ℕ) (a b n : ℕ) → ((k : ℕ) → k < n → g (a + k) ≡ h (b + k)) → sum_by g (range_with_len a n) ≡ sum_by h (range_with_len b n)
same_sums g h a b zero same = refl
same_sums g h a b (suc n) same =
    let first : g a ≡ h b = let z : a + 0 ≡ a = omega arith in let w : b + 0 ≡ b = omega arith in sym (ap g z) ∙ same 0 (omega arith) ∙ ap h w in
    let rest = same_sums g h (a + 1) (b + 1) n (λ k l. let z : a + 1 + k ≡ a + (k + 1) = omega arith in let w : b + (k + 1) ≡ b + 1 + k = omega arith in ap g z ∙ same (k + 1) (omega (arith, l)) ∙ ap h w) in
    sum_by-cons g a (range_with_len (a + 1) n) ∙ ap (λ z. z + sum_by g (range_with_len (a + 1) n)) first ∙ ap (λ z. h b + z) rest ∙ sym (sum_by-cons h b (range_with_len (b + 1) n))

-- a sum over entries is one over units of sums over slots
row_sums : (f : ℕ → ℕ → ℕ) (h : ℕ → ℕ) (ii n : ℕ) → ((x s : ℕ) → x < n → s < ii → h (x * ii + s) ≡ f x s) →
    sum_by h (range_with_len 0 (n * ii)) ≡ sum_by (λ x. sum_by (f x) (range_with_len 0 ii)) (range_with_len 0 n)
row_sums f h ii zero same = let z : 0 * ii ≡ 0 = omega arith in ap (λ k. sum_by h (range_with_len 0 k)) z
row_sums f h ii (suc n) same =
    let all : ℕ → ℕ = λ x. sum_by (f x) (range_with_len 0 ii) in
    let one_more : n + 1 ≡ suc n = omega arith in
    let from : 0 + n * ii ≡ n * ii = omega arith in
    let last : 0 + n ≡ n = omega arith in
    ap (λ k. sum_by h (range_with_len 0 k)) (suc-mul n ii)
    ∙ ap (sum_by h) (range_append 0 (n * ii) ii)
    ∙ sum_by-append h (range_with_len 0 (n * ii)) (range_with_len (0 + n * ii) ii)
    ∙ ap (λ z. z + sum_by h (range_with_len (0 + n * ii) ii)) (row_sums f h ii n (λ x s lx ls. same x s (omega (arith, lx)) ls))
    ∙ ap (λ z. sum_by all (range_with_len 0 n) + z) (same_sums h (f n) (0 + n * ii) 0 ii (λ k l. let z : 0 + n * ii + k ≡ n * ii + k = omega arith in let w : 0 + k ≡ k = omega arith in ap h z ∙ same n k (omega arith) l ∙ ap (f n) (sym w)))
    ∙ sym (sum_by_push all (range_with_len 0 n) n)
    ∙ ap (λ k. sum_by all (range_with_len 0 n ++ k ∷ [])) (sym last)
    ∙ ap (sum_by all) (sym (range_more 0 n))
    ∙ ap (λ k. sum_by all (range_with_len 0 k)) one_more

summed : (f : ℕ → ℕ) (g : ℕ → ℕ) (xs : List ℕ) → sum_by f (map g xs) ≡ sum_by (λ x. f (g x)) xs
summed f g [] = refl
summed f g (x ∷ xs) = sum_by-cons f (g x) (map g xs) ∙ ap (λ z. f (g x) + z) (summed f g xs) ∙ sym (sum_by-cons (λ y. f (g y)) x xs)

pub table_excess : (A : Arch) (ii : ℕ) (places : List Place) (counts : List ℕ) → IsTable (length A.units) ii places counts → over counts ≡ unit_excess A ii places
table_excess A ii places counts t =
    let f : ℕ → ℕ = λ c. c - 1 in
    ap over (fill_by_all (slice_index counts) counts (length A.units * ii) 0 t.each (λ k l. refl))
    ∙ summed f (slice_index counts) (range_with_len 0 (length A.units * ii))
    ∙ row_sums (excess_at ii places) (λ k. slice_index counts k - 1) ii (length A.units) (λ x s lx ls. ap f (t.right x s lx ls))
