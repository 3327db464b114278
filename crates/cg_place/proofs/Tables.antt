-- The numbers of nodes by unit and slot, as nodes come and go.
use Rattle.std.proofs.Common.{◌≡◌, ◌≢◌, ℕ, ◌+◌, ◌-◌, ◌*◌, ◌/◌, ◌%◌, ◌<◌, ◌≤◌, true, false, cond, List, length, take, get_or, set, refl, sym, ap, ◌∙◌, subst, arith, add-zero, ⊎_elim, eqb-true, eq-eqb}
use Rattle.std.specs.Prelude.{eqb, count_by, slice_index}
use Rattle.std.proofs.lemmas.Bool.{and_parts, and_from, cases_Bool, both_ways, cases_lt}
use Rattle.std.proofs.lemmas.List.{get_or-set_same, get_or-set_other, length-set}
use Rattle.std.proofs.lemmas.List.Sums.{sum_by-set, sum_by-le, sum_by_more, get_or-le-sum_by, count_by-le-length}
use Rattle.std.proofs.lemmas.List.Elements.{All-from_get_or}
use Rattle.std.proofs.lemmas.Nat.{mul-add-lt, mod_below, mul-le}
use Rattle.std.proofs.Math.Nat.{mul_comm, div-add-mod'}
use Rattle.cg_model.specs.declared.mapping.Place.{Place}
use Rattle.cg_place.specs.Placed.{place_in}
use Rattle.cg_place.specs.Counts.{stands_at}
use Rattle.cg_place.specs.Reservations.{entry, over, raised, lowered, IsTable}
use Rattle.cg_model.proofs.Mappings.{places_apart}

within : (units ii x s : ℕ) (counts : List ℕ) → length counts ≡ units * ii → x < units → s < ii → x * ii + s < length counts
within units ii x s counts long lx ls = let bound = mul-add-lt x ii s units lx ls in let c : ii * units ≡ units * ii = mul_comm ii units in omega arith

-- a number that is written at a place stands there, and the others stay
written_here : (units ii x s w : ℕ) (counts : List ℕ) (p : Place) → length counts ≡ units * ii → x < units → s < ii → stands_at ii x s p ≡ true →
    slice_index (set counts (entry ii p) w) (x * ii + s) ≡ w
written_here units ii x s w counts p long lx ls on =
    let (a, b) = and_parts (eqb p.unit x) (eqb (p.time % ii) s) on in
    let same : entry ii p ≡ x * ii + s = ap (λ z. z * ii + p.time % ii) (eqb-true _ _ a) ∙ ap (λ z. x * ii + z) (eqb-true _ _ b) in
    ap (λ z. slice_index (set counts z w) (x * ii + s)) same ∙ get_or-set_same counts (x * ii + s) w 0 (within units ii x s counts long lx ls)

written_there : (ii x s w : ℕ) (counts : List ℕ) (p : Place) → 0 < ii → s < ii → stands_at ii x s p ≡ false →
    slice_index (set counts (entry ii p) w) (x * ii + s) ≡ slice_index counts (x * ii + s)
written_there ii x s w counts p some ls off =
    let apart : x * ii + s ≢ entry ii p =
    λ e. let (a, b) = places_apart ii x s p.unit (p.time % ii) ls (mod_below p.time ii some) e in both_ways _ off (and_from _ _ (eq-eqb _ _ (sym a)) (eq-eqb _ _ (sym b))) in
    get_or-set_other counts (entry ii p) (x * ii + s) w 0 apart

here_is : (ii x s : ℕ) (counts : List ℕ) (p : Place) → stands_at ii x s p ≡ true → slice_index counts (entry ii p) ≡ slice_index counts (x * ii + s)
here_is ii x s counts p on =
    let (a, b) = and_parts (eqb p.unit x) (eqb (p.time % ii) s) on in
    ap (slice_index counts) (ap (λ z. z * ii + p.time % ii) (eqb-true _ _ a) ∙ ap (λ z. x * ii + z) (eqb-true _ _ b))

-- one more, and one less, at a place
abbrev pub more : ℕ → List ℕ → Place → List ℕ
more ii counts p = raised counts (entry ii p)

abbrev pub less : ℕ → List ℕ → Place → List ℕ
less ii counts p = lowered counts (entry ii p)

more_at : (units ii x s : ℕ) (counts : List ℕ) (p : Place) → 0 < ii → length counts ≡ units * ii → x < units → s < ii →
    slice_index (more ii counts p) (x * ii + s) ≡ slice_index counts (x * ii + s) + cond (stands_at ii x s p) 1 0
more_at units ii x s counts p some long lx ls =
    ⊎_elim
    (λ on.
    written_here units ii x s (slice_index counts (entry ii p) + 1) counts p long lx ls on
    ∙ ap (λ z. z + 1) (here_is ii x s counts p on)
    ∙ ap (λ b. slice_index counts (x * ii + s) + cond b 1 0) (sym on))
    (λ off.
    written_there ii x s (slice_index counts (entry ii p) + 1) counts p some ls off
    ∙ sym (add-zero (slice_index counts (x * ii + s)))
    ∙ ap (λ b. slice_index counts (x * ii + s) + cond b 1 0) (sym off))
    (cases_Bool (stands_at ii x s p))

again : (c : ℕ) → 0 < c → c - 1 + 1 ≡ c
again c h = omega arith

less_at : (units ii x s : ℕ) (counts : List ℕ) (p : Place) → 0 < ii → length counts ≡ units * ii → x < units → s < ii → 0 < slice_index counts (entry ii p) →
    slice_index (less ii counts p) (x * ii + s) + cond (stands_at ii x s p) 1 0 ≡ slice_index counts (x * ii + s)
less_at units ii x s counts p some long lx ls held =
    ⊎_elim
    (λ on.
    ap (λ b. slice_index (less ii counts p) (x * ii + s) + cond b 1 0) on
    ∙ ap (λ z. z + 1) (written_here units ii x s (slice_index counts (entry ii p) - 1) counts p long lx ls on)
    ∙ again (slice_index counts (entry ii p)) held
    ∙ here_is ii x s counts p on)
    (λ off.
    ap (λ b. slice_index (less ii counts p) (x * ii + s) + cond b 1 0) off
    ∙ add-zero (slice_index (less ii counts p) (x * ii + s))
    ∙ written_there ii x s (slice_index counts (entry ii p) - 1) counts p some ls off)
    (cases_Bool (stands_at ii x s p))

-- ---- what a table says of places

module _ (units ii : ℕ) (places : List Place) (counts : List ℕ) (some : 0 < ii) (t : IsTable units ii places counts) where
  pub known : (p : Place) → p.unit < units → entry ii p < length counts
  known p l = within units ii p.unit (p.time % ii) counts t.each l (mod_below p.time ii some)

  pub few : (p : Place) → p.unit < units → slice_index counts (entry ii p) ≤ length places
  few p l =
      let a = t.right p.unit (p.time % ii) l (mod_below p.time ii some) in
      let b = count_by-le-length (stands_at ii p.unit (p.time % ii)) places in
      omega arith

  -- where a node stands
  pub held : (v : ℕ) → v < length places → (place_in places v).unit < units → 0 < slice_index counts (entry ii (place_in places v))
  held v lv l =
      let p = place_in places v in
      let a : slice_index counts (entry ii p) ≡ count_by (stands_at ii p.unit (p.time % ii)) places = t.right p.unit (p.time % ii) l (mod_below p.time ii some) in
      let on : stands_at ii p.unit (p.time % ii) p ≡ true = and_from _ _ (eq-eqb p.unit p.unit refl) (eq-eqb (p.time % ii) (p.time % ii) refl) in
      let b : cond (stands_at ii p.unit (p.time % ii) p) 1 0 ≤ count_by (stands_at ii p.unit (p.time % ii)) places = get_or-le-sum_by (λ q. cond (stands_at ii p.unit (p.time % ii) q) 1 0) places v (record { unit = 0; time = 0 }) lv in
      let d : 1 ≤ count_by (stands_at ii p.unit (p.time % ii)) places = subst (λ z. cond z 1 0 ≤ count_by (stands_at ii p.unit (p.time % ii)) places) on b in
      omega arith

  -- each number is that of a slot of a unit
  each_few : (k : ℕ) → k < length counts → get_or counts k 0 - 1 ≤ length places
  each_few k l =
      let e : k / ii * ii + k % ii ≡ k = div-add-mod' k ii in
      let ls : k % ii < ii = mod_below k ii some in
      let long : length counts ≡ units * ii = t.each in
      let lx : k / ii < units = ⊎_elim (λ h. h) (λ h. let m : units * ii ≤ k / ii * ii = mul-le units ii (k / ii) ii h (omega arith) in absurd (omega arith)) (cases_lt (k / ii) units) in
      let a = t.right (k / ii) (k % ii) lx ls in
      let b = count_by-le-length (stands_at ii (k / ii) (k % ii)) places in
      let d : slice_index counts (k / ii * ii + k % ii) ≡ get_or counts k 0 = ap (slice_index counts) e in
      omega arith

  pub over_few : units ≤ 1024 → ii ≤ 64 → length places ≤ 1024 → over counts ≤ 67108864
  over_few lu li lp =
      let a : over counts ≤ length counts * length places = sum_by-le (λ c. c - 1) (length places) counts (All-from_get_or (λ c. c - 1 ≤ length places) counts 0 each_few) in
      let long : length counts ≡ units * ii = t.each in
      let b : units * ii ≤ 1024 * 64 = mul-le units ii 1024 64 lu li in
      let d : length counts * length places ≤ 65536 * 1024 = mul-le (length counts) (length places) 65536 1024 (omega arith) lp in
      omega arith

-- ---- a node comes

-- the table of the first k places, and of one place more
pub one_more : (units ii : ℕ) (places : List Place) (k : ℕ) (counts : List ℕ) → 0 < ii → k < length places → IsTable units ii (take k places) counts →
    IsTable units ii (take (k + 1) places) (more ii counts (place_in places k))
one_more units ii places k counts some l t =
    let p = place_in places k in
    record {
      each = length-set counts (entry ii p) _ ∙ t.each;
      right = λ x s lx ls.
          more_at units ii x s counts p some t.each lx ls
          ∙ ap (λ z. z + cond (stands_at ii x s p) 1 0) (t.right x s lx ls)
          ∙ sym (sum_by_more (λ q. cond (stands_at ii x s q) 1 0) places k (record { unit = 0; time = 0 }) l);
    }

-- ---- a node moves

module _ (units ii : ℕ) (places : List Place) (v : ℕ) (q : Place) (counts : List ℕ) (some : 0 < ii) (lv : v < length places) (stood : (place_in places v).unit < units) (to : q.unit < units) (t : IsTable units ii places counts) where
  pub less_long : length (less ii counts (place_in places v)) ≡ units * ii
  less_long = length-set counts (entry ii (place_in places v)) _ ∙ t.each

  pub less_known : entry ii q < length (less ii counts (place_in places v))
  less_known = within units ii q.unit (q.time % ii) (less ii counts (place_in places v)) less_long to (mod_below q.time ii some)

  -- the numbers without it are no greater
  pub less_few : slice_index (less ii counts (place_in places v)) (entry ii q) ≤ length places
  less_few =
      let h = held units ii places counts some t v lv stood in
      let a : slice_index (less ii counts (place_in places v)) (entry ii q) + cond (stands_at ii q.unit (q.time % ii) (place_in places v)) 1 0 ≡ slice_index counts (entry ii q) =
      less_at units ii q.unit (q.time % ii) counts (place_in places v) some t.each to (mod_below q.time ii some) h in
      let b = few units ii places counts some t q to in
      omega arith

  pub less_over : over (less ii counts (place_in places v)) ≤ over counts
  less_over =
      let h = held units ii places counts some t v lv stood in
      let a : over (less ii counts (place_in places v)) + (slice_index counts (entry ii (place_in places v)) - 1) ≡ over counts + (slice_index counts (entry ii (place_in places v)) - 1 - 1) =
      sum_by-set (λ c. c - 1) counts (entry ii (place_in places v)) (slice_index counts (entry ii (place_in places v)) - 1) 0 (known units ii places counts some t (place_in places v) stood) in
      omega arith

  pub shifted : IsTable units ii (set places v q) (more ii (less ii counts (place_in places v)) q)
  shifted =
      let h = held units ii places counts some t v lv stood in
      record {
        each = length-set (less ii counts (place_in places v)) (entry ii q) _ ∙ less_long;
        right = λ x s lx ls.
            let a : slice_index (less ii counts (place_in places v)) (x * ii + s) + cond (stands_at ii x s (place_in places v)) 1 0 ≡ slice_index counts (x * ii + s) =
            less_at units ii x s counts (place_in places v) some t.each lx ls h in
            let b : slice_index (more ii (less ii counts (place_in places v)) q) (x * ii + s) ≡ slice_index (less ii counts (place_in places v)) (x * ii + s) + cond (stands_at ii x s q) 1 0 =
            more_at units ii x s (less ii counts (place_in places v)) q some less_long lx ls in
            let d : count_by (stands_at ii x s) (set places v q) + cond (stands_at ii x s (place_in places v)) 1 0 ≡ count_by (stands_at ii x s) places + cond (stands_at ii x s q) 1 0 =
            sum_by-set (λ p. cond (stands_at ii x s p) 1 0) places v q (record { unit = 0; time = 0 }) lv in
            let e : slice_index counts (x * ii + s) ≡ count_by (stands_at ii x s) places = t.right x s lx ls in
            omega arith;
      }
