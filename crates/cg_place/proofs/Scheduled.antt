-- Both counts of a placement are 0 exactly where it is a schedule.
use Rattle.std.proofs.Common.{◌≡◌, ℕ, ◌+◌, ◌-◌, ◌*◌, ◌%◌, ◌<◌, ◌≤◌, ◌↔◌, true, false, cond, List, length, get_or, refl, sym, ap, ◌∙◌, subst, arith, ⊎_elim, eqb-true, eq-eqb}
use Rattle.std.specs.Prelude.{eqb, count_by, sum_by}
use Rattle.std.specs.List.{range_with_len}
use Rattle.std.proofs.lemmas.Bool.{and_parts, and_from, cases_order, cases_lt, lt-ltb, le-ltb}
use Rattle.std.proofs.lemmas.Option.{slice_get-get_or, get_or_from_slice_get, slice_get_within}
use Rattle.std.proofs.lemmas.List.Sums.{sum_by-le, get_or-le-sum_by}
use Rattle.std.proofs.lemmas.List.Elements.{All-from_get_or}
use Rattle.std.proofs.lemmas.List.FromFn.{length-range_with_len, get_or-range_with_len}
use Rattle.std.proofs.lemmas.Nat.{mod_below}
use Rattle.cg_model.proofs.Counts.{count_by-two, count_by-one}
use Rattle.cg_model.specs.declared.kernel.OrderEdge.{OrderEdge}
use Rattle.cg_model.specs.declared.mapping.Place.{Place}
use Rattle.cg_model.specs.Kernel.{Kernel, HasOrder}
use Rattle.cg_model.specs.Array.{Arch}
use Rattle.cg_place.specs.Placed.{place_in}
use Rattle.cg_place.specs.Counts.{stands_at, excess_at, excess_on, unit_excess, is_broken, order_violations}
use Rattle.cg_place.specs.Schedules.{AreApart, AreOrdered}

abbrev no_place : Place
no_place = record { unit = 0; time = 0 }

-- a sum over a range is 0 exactly where each term is
pub terms_zero : (f : ℕ → ℕ) (n x : ℕ) → x < n → sum_by f (range_with_len 0 n) ≡ 0 → f x ≡ 0
terms_zero f n x l e =
    let long : length (range_with_len 0 n) ≡ n = length-range_with_len 0 n in
    let a : f (get_or (range_with_len 0 n) x 0) ≤ sum_by f (range_with_len 0 n) = get_or-le-sum_by f (range_with_len 0 n) x 0 (omega arith) in
    let c : 0 + x ≡ x = omega arith in
    let d : f (get_or (range_with_len 0 n) x 0) ≡ f x = ap f (get_or-range_with_len 0 n x 0 l ∙ c) in
    omega arith

sum_zero : (f : ℕ → ℕ) (n : ℕ) → ((x : ℕ) → x < n → f x ≡ 0) → sum_by f (range_with_len 0 n) ≡ 0
sum_zero f n zeros =
    let long : length (range_with_len 0 n) ≡ n = length-range_with_len 0 n in
    let a : sum_by f (range_with_len 0 n) ≤ length (range_with_len 0 n) * 0 =
    sum_by-le f 0 (range_with_len 0 n) (All-from_get_or (λ x. f x ≤ 0) (range_with_len 0 n) 0
    (λ i l. let c : 0 + i ≡ i = omega arith in let e : f (get_or (range_with_len 0 n) i 0) ≡ 0 = ap f (get_or-range_with_len 0 n i 0 (omega arith) ∙ c) ∙ zeros i (omega arith) in omega arith)) in
    omega arith

-- ---- units

module _ (A : Arch) (ii : ℕ) (places : List Place) (some : 0 < ii) (known : (v : ℕ) → v < length places → (place_in places v).unit < length A.units) where
  -- two nodes in one slot
  two : (v w : ℕ) → v < w → w < length places → (place_in places v).unit ≡ (place_in places w).unit → (place_in places v).time % ii ≡ (place_in places w).time % ii →
      2 ≤ count_by (stands_at ii (place_in places v).unit ((place_in places v).time % ii)) places
  two v w l lw unit slot =
      count_by-two (stands_at ii (place_in places v).unit ((place_in places v).time % ii)) places v w (place_in places v) (place_in places w)
      (slice_get-get_or places v _ (omega (arith, l, lw))) (and_from _ _ (eq-eqb (place_in places v).unit _ refl) (eq-eqb ((place_in places v).time % ii) _ refl))
      (slice_get-get_or places w _ lw) (and_from _ _ (eq-eqb _ _ (sym unit)) (eq-eqb _ _ (sym slot))) l

  never : unit_excess A ii places ≡ 0 → (v w : ℕ) → v < w → w < length places → (place_in places v).unit ≡ (place_in places w).unit → (place_in places v).time % ii ≡ (place_in places w).time % ii → ⊥
  never none v w l lw unit slot =
      let a : 2 ≤ count_by (stands_at ii (place_in places v).unit ((place_in places v).time % ii)) places = two v w l lw unit slot in
      let b : count_by (stands_at ii (place_in places v).unit ((place_in places v).time % ii)) places - 1 ≡ 0 =
      terms_zero (excess_at ii places (place_in places v).unit) ii ((place_in places v).time % ii) (mod_below _ ii some)
      (terms_zero (excess_on ii places) (length A.units) (place_in places v).unit (known v (omega (arith, l, lw))) none) in
      omega arith

  apart : unit_excess A ii places ≡ 0 → AreApart ii places
  apart none v w lv lw unit slot =
      ⊎_elim (λ same. same)
      (λ other. ⊎_elim (λ less. absurd (never none v w less lw unit slot)) (λ more. absurd (never none w v more lv (sym unit) (sym slot))) other)
      (cases_order v w)

  one : AreApart ii places → (x s : ℕ) → count_by (stands_at ii x s) places ≤ 1
  one alone x s =
      count_by-one (stands_at ii x s) places
      (λ p q y z py ty qz tz.
      let (a, b) = and_parts (eqb y.unit x) (eqb (y.time % ii) s) ty in
      let (d, e) = and_parts (eqb z.unit x) (eqb (z.time % ii) s) tz in
      let at_p : place_in places p ≡ y = get_or_from_slice_get places p y no_place py in
      let at_q : place_in places q ≡ z = get_or_from_slice_get places q z no_place qz in
      alone p q (slice_get_within places p y py) (slice_get_within places q z qz)
      (ap (λ (k : Place). k.unit) at_p ∙ eqb-true _ _ a ∙ sym (eqb-true _ _ d) ∙ ap (λ (k : Place). k.unit) (sym at_q))
      (ap (λ (k : Place). k.time % ii) at_p ∙ eqb-true _ _ b ∙ sym (eqb-true _ _ e) ∙ ap (λ (k : Place). k.time % ii) (sym at_q)))

  pub excess_none : (unit_excess A ii places ≡ 0) ↔ AreApart ii places
  excess_none = (
    apart,
    λ alone. sum_zero (excess_on ii places) (length A.units) (λ x lx. sum_zero (excess_at ii places x) ii (λ s ls. let h = one alone x s in omega arith)),
  )

-- ---- order edges

abbrev no_edge : OrderEdge
no_edge = record { from = 0; to = 0; distance = 0 }

module _ (K : Kernel) (ii : ℕ) (places : List Place) where
  unbroken : order_violations K ii places ≡ 0 → (e u v d : ℕ) → HasOrder K e u v d → is_broken ii places (record { from = u; to = v; distance = d }) ≡ true → ⊥
  unbroken none e u v d has broken =
      let within : e < length K.order = slice_get_within K.order e _ has in
      let read : get_or K.order e no_edge ≡ record { from = u; to = v; distance = d } = get_or_from_slice_get K.order e _ no_edge has in
      let a : cond (is_broken ii places (get_or K.order e no_edge)) 1 0 ≤ count_by (is_broken ii places) K.order = get_or-le-sum_by (λ o. cond (is_broken ii places o) 1 0) K.order e no_edge within in
      let b : 1 ≤ count_by (is_broken ii places) K.order = subst (λ t. cond t 1 0 ≤ count_by (is_broken ii places) K.order) (ap (is_broken ii places) read ∙ broken) a in
      let c : count_by (is_broken ii places) K.order ≡ 0 = none in
      omega arith

  ordered : order_violations K ii places ≡ 0 → AreOrdered K ii places
  ordered none e u v d has =
      ⊎_elim
      (λ late. absurd (unbroken none e u v d has (lt-ltb _ _ late)))
      (λ after. after)
      (cases_lt ((place_in places v).time + ii * d) ((place_in places u).time + 1))

  none_broken : AreOrdered K ii places → order_violations K ii places ≡ 0
  none_broken after =
      let a : count_by (is_broken ii places) K.order ≤ length K.order * 0 =
      sum_by-le (λ o. cond (is_broken ii places o) 1 0) 0 K.order (All-from_get_or (λ o. cond (is_broken ii places o) 1 0 ≤ 0) K.order no_edge
      (λ i l.
      let o = get_or K.order i no_edge in
      let off : is_broken ii places o ≡ false = le-ltb _ _ (after i o.from o.to o.distance (slice_get-get_or K.order i no_edge l)) in
      subst (λ t. cond t 1 0 ≤ 0) (sym off) (omega arith))) in
      omega arith

  pub violations_none : (order_violations K ii places ≡ 0) ↔ AreOrdered K ii places
  violations_none = (ordered, none_broken)
