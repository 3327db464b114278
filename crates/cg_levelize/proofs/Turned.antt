-- A path that closes is a loop.
use Rattle.std.proofs.Common.{◌≡◌, ◌≢◌, ℕ, ◌+◌, ◌-◌, ◌<◌, ◌≤◌, ◌⊎◌, List, ◌++◌, length, drop, sym, ◌∙◌, subst, ap, arith, ⊎_elim, reverse, inl, inr}
use Rattle.std.specs.Prelude.{Contains, slice_index, slice_range}
use Rattle.std.proofs.lemmas.Bool.{cases_lt}
use Rattle.std.proofs.lemmas.List.{get_or-take, get_or-drop, get_or-reverse, get_or_append_left, get_or-append_right, length-take, length-drop, length-append, length-reverse}
use Rattle.cg_model.specs.declared.array.Resource.{Resource}
use Rattle.cg_levelize.specs.Topological.{Passes, IsCombinationalLoop}
use Rattle.cg_levelize.specs.Ring.{IsRing}
use Rattle.cg_levelize.specs.Walk.{IsPath}
use Rattle.cg_levelize.proofs.Passing.{place_in}

-- the ring's first part, from its least number back to where it starts in the path
abbrev front : List ℕ → ℕ → ℕ → List ℕ
front path from place = reverse (slice_range path from (place + 1))

-- and its second part, from the path's end back
abbrev back : List ℕ → ℕ → List ℕ
back path place = reverse (drop (place + 1) path)

front_long : (path : List ℕ) (from place : ℕ) → from ≤ place → place < length path → length (front path from place) ≡ place + 1 - from
front_long path from place h w =
    let a = length-reverse (slice_range path from (place + 1)) in
    let b = length-take (place + 1 - from) (drop from path) in
    let c = length-drop from path in
    omega arith

back_long : (path : List ℕ) (place : ℕ) → length (back path place) ≡ length path - (place + 1)
back_long path place = length-reverse (drop (place + 1) path) ∙ length-drop (place + 1) path

ring_long : (path : List ℕ) (number : ℕ) (ring : List ℕ) → (r : IsRing path number ring) → length ring ≡ length path - r.from
ring_long path number ring r =
    let e = ap (λ (xs : List ℕ). length xs) r.items in
    let a = length-append (front path r.from r.place) (back path r.place) in
    let b = front_long path r.from r.place r.after r.within in
    let c = back_long path r.place in
    let h : r.from ≤ r.place = r.after in
    let w : r.place < length path = r.within in
    omega arith

front_at : (path : List ℕ) (from place k : ℕ) → from ≤ place → place < length path → k < place + 1 - from → slice_index (front path from place) k ≡ slice_index path (place - k)
front_at path from place k h w lt =
    let b = length-take (place + 1 - from) (drop from path) in
    let c = length-drop from path in
    let n : length (slice_range path from (place + 1)) ≡ place + 1 - from = omega arith in
    let turn = get_or-reverse (slice_range path from (place + 1)) k 0 (omega arith) in
    let i : ℕ = length (slice_range path from (place + 1)) - 1 - k in
    let in' : i < place + 1 - from = omega arith in
    let e : from + i ≡ place - k = omega arith in
    turn ∙ get_or-take (place + 1 - from) (drop from path) i 0 in' ∙ get_or-drop from path i 0 ∙ ap (λ z. slice_index path z) e

back_at : (path : List ℕ) (place k : ℕ) → place < length path → k < length path - (place + 1) → slice_index (back path place) k ≡ slice_index path (length path - 1 - k)
back_at path place k w lt =
    let b = length-drop (place + 1) path in
    let turn = get_or-reverse (drop (place + 1) path) k 0 (omega arith) in
    let at = get_or-drop (place + 1) path (length (drop (place + 1) path) - 1 - k) 0 in
    let e : (place + 1) + (length (drop (place + 1) path) - 1 - k) ≡ length path - 1 - k = omega arith in
    turn ∙ at ∙ ap (λ i. slice_index path i) e

-- the first numbers of the ring are those of the path from the least back
ring_front : (path : List ℕ) (number : ℕ) (ring : List ℕ) → (r : IsRing path number ring) → (k : ℕ) → k < r.place + 1 - r.from → slice_index ring k ≡ slice_index path (r.place - k)
ring_front path number ring r k lt =
    let long = front_long path r.from r.place r.after r.within in
    ap (λ (xs : List ℕ). slice_index xs k) r.items ∙
    get_or_append_left (front path r.from r.place) (back path r.place) 0 k (omega arith) ∙
    front_at path r.from r.place k r.after r.within lt

-- the others are those of the path from its end back
ring_back : (path : List ℕ) (number : ℕ) (ring : List ℕ) → (r : IsRing path number ring) → (k : ℕ) → r.place + 1 - r.from ≤ k → k < length path - r.from →
    slice_index ring k ≡ slice_index path (length path + (r.place - r.from) - k)
ring_back path number ring r k low high =
    let h : r.from ≤ r.place = r.after in
    let w : r.place < length path = r.within in
    let at = back_at path r.place (k - (r.place + 1 - r.from)) r.within (omega arith) in
    let e : length path - 1 - (k - (r.place + 1 - r.from)) ≡ length path + (r.place - r.from) - k = omega arith in
    ap (λ (xs : List ℕ). slice_index xs k) r.items ∙
    get_or-append_right (front path r.from r.place) (back path r.place) (r.place + 1 - r.from) k 0 (front_long path r.from r.place r.after r.within) low ∙
    at ∙ ap (λ i. slice_index path i) e

-- number k of the ring is at place p of the path
pub record IsAt (path : List ℕ) (from place k p : ℕ) (ring : List ℕ) : Type 0 where
  pub at : slice_index ring k ≡ slice_index path p
  pub low : from ≤ p
  pub high : p < length path
  pub turn : ((k + p ≡ place) × (k ≤ place - from)) ⊎ ((k + p + from ≡ length path + place) × (place < p))

ring_at : (path : List ℕ) (number : ℕ) (ring : List ℕ) → (r : IsRing path number ring) → (k : ℕ) → k < length ring → (p : ℕ) × IsAt path r.from r.place k p ring
ring_at path number ring r k lt =
    let h : r.from ≤ r.place = r.after in
    let w : r.place < length path = r.within in
    let long = ring_long path number ring r in
    ⊎_elim
    (λ low. (r.place - k, record { at = ring_front path number ring r k low; low = omega arith; high = omega arith; turn = inl (omega arith, omega arith) }))
    (λ high. (length path + (r.place - r.from) - k, record { at = ring_back path number ring r k high (omega arith); low = omega arith; high = omega arith; turn = inr (omega arith, omega arith) }))
    (cases_lt k (r.place + 1 - r.from))

-- each number of the path passes to the one before it, and that at the place to the last
next_passes : (rs : List Resource) (path : List ℕ) (from : ℕ) → IsPath rs path → Passes rs (slice_index path from) (slice_index path (length path - 1)) → (p q : ℕ) → (q + 1 ≡ p) ⊎ ((p ≡ from) × (q + 1 ≡ length path)) → p < length path → q < length path → Passes rs (slice_index path p) (slice_index path q)
next_passes rs path from is closes p q next hp hq =
    ⊎_elim
    (λ e. subst (λ i. Passes rs (slice_index path i) (slice_index path q)) e (is.links q (omega arith)))
    (λ e.
    let last : length path - 1 ≡ q = omega (arith, e.1) in
    subst (λ i. Passes rs (slice_index path i) (slice_index path q)) (sym e.0) (subst (λ i. Passes rs (slice_index path from) (slice_index path i)) last closes))
    next

-- a ring of a path whose last resource is driven by a number of it is a loop
pub ring_loop : (rs : List Resource) (path : List ℕ) (number : ℕ) (ring : List ℕ) → IsPath rs path → Passes rs number (slice_index path (length path - 1)) → IsRing path number ring → IsCombinationalLoop rs ring
ring_loop rs path number ring is closes r =
    let closes' : Passes rs (slice_index path r.from) (slice_index path (length path - 1)) = subst (λ z. Passes rs z (slice_index path (length path - 1))) (sym r.starts) closes in
    let after : r.from ≤ r.place = r.after in
    let within : r.place < length path = r.within in
    let long : length ring ≡ length path - r.from = ring_long path number ring r in
    let first : r.place - 0 ≡ r.place = omega arith in
    let zero_at : slice_index ring 0 ≡ slice_index path r.place = ring_front path number ring r 0 (omega arith) ∙ ap (λ i. slice_index path i) first in
    record {
      some = omega arith;
      known = λ k lt. let a = ring_at path number ring r k lt in rw (a.1.at) (is.known a.0 a.1.high);
      once = λ j k lj lk e.
          let a = ring_at path number ring r j lj in
          let b = ring_at path number ring r k lk in
          let same : a.0 ≡ b.0 = is.once a.0 b.0 a.1.high b.1.high (sym a.1.at ∙ e ∙ b.1.at) in
          let low : r.from ≤ a.0 = a.1.low in
          let high : a.0 < length path = a.1.high in
          ⊎_elim (λ x. ⊎_elim (λ y. omega (arith, x.0, x.1, y.0, y.1)) (λ y. omega (arith, x.0, x.1, y.0, y.1)) b.1.turn)
          (λ x. ⊎_elim (λ y. omega (arith, x.0, x.1, y.0, y.1)) (λ y. omega (arith, x.0, x.1, y.0, y.1)) b.1.turn)
          a.1.turn;
      links = λ k lt.
          let a = ring_at path number ring r k (omega arith) in
          let b = ring_at path number ring r (k + 1) lt in
          let next : (b.0 + 1 ≡ a.0) ⊎ ((a.0 ≡ r.from) × (b.0 + 1 ≡ length path)) =
          ⊎_elim
          (λ x. ⊎_elim (λ y. inl (omega (arith, x.0, x.1, y.0, y.1, a.1.low, b.1.high))) (λ y. inr (omega (arith, x.0, x.1, y.0, y.1, a.1.low, b.1.high), omega (arith, x.0, x.1, y.0, y.1, a.1.low, b.1.high))) b.1.turn)
          (λ x. ⊎_elim (λ y. absurd (omega (arith, x.0, x.1, y.0, y.1, a.1.high, b.1.low))) (λ y. inl (omega (arith, x.0, x.1, y.0, y.1, a.1.high, b.1.low))) b.1.turn)
          a.1.turn in
          rw (a.1.at, b.1.at) (next_passes rs path r.from is closes' a.0 b.0 next a.1.high b.1.high);
      closed =
          let b = ring_at path number ring r (length ring - 1) (omega arith) in
          let next : (r.place + 1 ≡ b.0) ⊎ ((b.0 ≡ r.from) × (r.place + 1 ≡ length path)) =
          ⊎_elim (λ y. inr (omega (arith, y.0, y.1, b.1.low), omega (arith, y.0, y.1, b.1.low))) (λ y. inl (omega (arith, y.0, y.1, b.1.high))) b.1.turn in
          rw (b.1.at, zero_at) (next_passes rs path r.from is closes' b.0 r.place next b.1.high r.within);
      least = λ k lt. let a = ring_at path number ring r k lt in rw (zero_at, a.1.at) (r.least a.0 a.1.low a.1.high);
    }

-- what was turned at the least is a ring
pub turned_ring : (path : List ℕ) (number from place : ℕ) (ring : List ℕ) → slice_index path from ≡ number → from ≤ place → place < length path → ((k : ℕ) → from ≤ k → k < length path → slice_index path place ≤ slice_index path k) →
    ring ≡ reverse (slice_range path from (place + 1)) ++ reverse (drop (place + 1) path) → IsRing path number ring
turned_ring path number from place ring starts after within least e =
    record { from = from; place = place; starts = starts; after = after; within = within; least = least; items = e }

-- a number of the path is found before its end
pub found_within : (path : List ℕ) (number at : ℕ) → Contains path number → ((k : ℕ) → k < at → slice_index path k ≢ number) → at < length path
found_within path number at c before =
    let p = place_in path number c in
    let within : p.0 < length path = p.1 in
    ⊎_elim (λ lt. absurd (before p.0 lt p.2)) (λ ge. omega arith) (cases_lt p.0 at)
