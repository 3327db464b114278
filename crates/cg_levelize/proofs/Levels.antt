-- An order gives levels, and leaves no loop.
use Rattle.std.proofs.Common.{◌≡◌, ℕ, zero, suc, ◌+◌, ◌-◌, ◌<◌, ◌≤◌, List, length, take, eqb, sym, ◌∙◌, subst, ap, arith, ⊎_elim, add-one}
use Rattle.std.specs.Prelude.{Contains, slice_index}
use Rattle.std.specs.List.{position_or_len}
use Rattle.std.proofs.lemmas.Bool.{cases_lt, eq-eqb, eqb-true, both_ways}
use Rattle.std.proofs.lemmas.List.{get_or-take, length-take}
use Rattle.std.proofs.lemmas.List.Sums.{fails_before_first, passes_at_first}
use Rattle.cg_model.specs.declared.array.Resource.{Resource}
use Rattle.cg_levelize.specs.Topological.{Passes, IsTopological, IsCombinationalLoop, AreLevels}
use Rattle.cg_levelize.proofs.Passing.{place_in, driven_known}

-- the first place of r in a list, or the list's length
abbrev pub place_of : List ℕ → ℕ → ℕ
place_of order r = position_or_len (λ x. eqb x r) order

-- it is at most any place of r
first_place : (order : List ℕ) (k r : ℕ) → slice_index order k ≡ r → place_of order r ≤ k
first_place order k r e =
    ⊎_elim
    (λ h. absurd (both_ways (eqb (slice_index order k) r) (fails_before_first (λ x. eqb x r) order k 0 h) (eq-eqb (slice_index order k) r e)))
    (λ h. h)
    (cases_lt k (place_of order r))

place_within : (order : List ℕ) (r : ℕ) → Contains order r → place_of order r < length order
place_within order r c =
    let p = place_in order r c in
    let least : place_of order r ≤ p.0 = first_place order p.0 r p.2 in
    let within : p.0 < length order = p.1 in
    omega arith

place_has : (order : List ℕ) (r : ℕ) → Contains order r → slice_index order (place_of order r) ≡ r
place_has order r c = eqb-true (slice_index order (place_of order r)) r (passes_at_first (λ x. eqb x r) order 0 (place_within order r c))

-- the places in an order are levels
pub order_levels : (rs : List Resource) (order : List ℕ) → IsTopological rs order → AreLevels rs (place_of order)
order_levels rs order o =
    record {
      levels = λ r h. subst (λ n. place_of order r < n) o.long (place_within order r (o.all r h));
      rising = λ q r p.
          let c : Contains order r = o.all r (driven_known rs q r p) in
          let at : slice_index order (place_of order r) ≡ r = place_has order r c in
          let before = place_in (take (place_of order r) order) q (o.rising (place_of order r) q (place_within order r c) (subst (λ x. Passes rs q x) (sym at) p)) in
          let long = length-take (place_of order r) order in
          let within : before.0 < length (take (place_of order r) order) = before.1 in
          let lower : before.0 < place_of order r = omega arith in
          let first : place_of order q ≤ before.0 = first_place order before.0 q (sym (get_or-take (place_of order r) order before.0 0 lower) ∙ before.2) in
          omega arith;
    }

-- along a loop levels rise
along : (rs : List Resource) (loop : List ℕ) (level : ℕ → ℕ) → IsCombinationalLoop rs loop → AreLevels rs level → (k : ℕ) → k < length loop → level (slice_index loop 0) ≤ level (slice_index loop k)
along rs loop level l a zero h = omega arith
along rs loop level l a (suc k) h =
    let before : level (slice_index loop 0) ≤ level (slice_index loop k) = along rs loop level l a k (omega arith) in
    let up : level (slice_index loop k) < level (slice_index loop (k + 1)) = a.rising (slice_index loop k) (slice_index loop (k + 1)) (l.links k (omega arith)) in
    let e : slice_index loop (k + 1) ≡ slice_index loop (suc k) = ap (λ n. slice_index loop n) (add-one k) in
    let same : level (slice_index loop (k + 1)) ≡ level (slice_index loop (suc k)) = ap level e in
    omega arith

-- levels leave no loop
pub levels_no_loop : (rs : List Resource) (level : ℕ → ℕ) (loop : List ℕ) → AreLevels rs level → IsCombinationalLoop rs loop → ⊥
levels_no_loop rs level loop a l =
    let some : 0 < length loop = l.some in
    let round : level (slice_index loop 0) ≤ level (slice_index loop (length loop - 1)) = along rs loop level l a (length loop - 1) (omega arith) in
    let back : level (slice_index loop (length loop - 1)) < level (slice_index loop 0) = a.rising (slice_index loop (length loop - 1)) (slice_index loop 0) l.closed in
    omega arith

-- there is no order where there is a loop
pub order_no_loop : (rs : List Resource) (order loop : List ℕ) → IsTopological rs order → IsCombinationalLoop rs loop → ⊥
order_no_loop rs order loop o l = levels_no_loop rs (place_of order) loop (order_levels rs order o) l
