-- An order of resources has each of them once.
use Rattle.std.proofs.Common.{◌≡◌, ℕ, zero, suc, ◌<◌, ◌≤◌, eqb, List, ◌∷◌, length, map, ap, sym, ◌∙◌, arith, ⊎_elim}
use Rattle.std.specs.Prelude.{Contains, slice_index}
use Rattle.std.specs.List.{range_with_len}
use Rattle.std.proofs.lemmas.Bool.{cases_lt, eq-eqb, eqb-true, both_ways}
use Rattle.std.proofs.lemmas.List.{get_or_default}
use Rattle.std.proofs.lemmas.List.FromFn.{length-map-range_with_len, get_or-map-range_with_len}
use Rattle.std.proofs.lemmas.List.Sums.{fails_before_first, passes_at_first}
use Rattle.cg_model.specs.declared.array.Resource.{Resource}
use Rattle.cg_model.proofs.Ranges.{pigeons}
use Rattle.cg_levelize.specs.Topological.{IsTopological}
use Rattle.cg_levelize.proofs.Levels.{place_of}

first_place : (order : List ℕ) (k r : ℕ) → slice_index order k ≡ r → place_of order r ≤ k
first_place order k r e =
    ⊎_elim
    (λ h. absurd (both_ways (eqb (slice_index order k) r) (fails_before_first (λ x. eqb x r) order k 0 h) (eq-eqb (slice_index order k) r e)))
    (λ h. h)
    (cases_lt k (place_of order r))

place_within : (order : List ℕ) (r : ℕ) → Contains order r → place_of order r < length order
place_within order r (k, l, e) =
    let least : place_of order r ≤ k = first_place order k r (get_or_default order k 0 r l ∙ e) in
    omega (arith, l, least)

place_has : (order : List ℕ) (r : ℕ) → Contains order r → slice_index order (place_of order r) ≡ r
place_has order r c = eqb-true (slice_index order (place_of order r)) r (passes_at_first (λ x. eqb x r) order 0 (place_within order r c))

module _ (rs : List Resource) (order : List ℕ) (topological : IsTopological rs order) (j k : ℕ) (before : j < k) (within : k < length order) (same : slice_index order j ≡ slice_index order k) where
  -- the second place of a number, and the first of each
  abbrev places : List ℕ
  places = k ∷ map (place_of order) (range_with_len 0 (length rs))

  many : length places ≡ suc (length rs)
  many = ap suc (length-map-range_with_len (place_of order) 0 (length rs))

  place_at : (i : ℕ) → suc i < length places → slice_index places (suc i) ≡ place_of order i
  place_at i l = get_or-map-range_with_len (place_of order) 0 (length rs) i i 0 (omega (arith, l, many)) (omega arith)

  low : (i : ℕ) → i < length places → slice_index places i < length order
  low zero l = within
  low (suc i) l = let is = place_at i l in let lower = place_within order i (topological.all i (omega (arith, l, many))) in omega (arith, is, lower)

  apart : (a b : ℕ) → a < b → b < length places → slice_index places a ≡ slice_index places b → ⊥
  apart a zero h l e = absurd (omega arith)
  apart zero (suc b) h l e =
      let there = topological.all b (omega (arith, l, many)) in
      let is : k ≡ place_of order b = e ∙ place_at b l in
      let has : slice_index order k ≡ b = ap (slice_index order) is ∙ place_has order b there in
      let first = first_place order j b (same ∙ has) in
      absurd (omega (arith, is, first))
  apart (suc a) (suc b) h l e =
      let one = place_has order a (topological.all a (omega (arith, h, l, many))) in
      let two = place_has order b (topological.all b (omega (arith, l, many))) in
      let is : place_of order a ≡ place_of order b = sym (place_at a (omega (arith, h, l))) ∙ e ∙ place_at b l in
      let both : a ≡ b = sym one ∙ ap (slice_index order) is ∙ two in
      absurd (omega (arith, both, h))

  -- no number stands in two places
  pub once : ⊥
  once = let most = pigeons (length order) places low apart in let long = topological.long in omega (arith, most, many, long)
