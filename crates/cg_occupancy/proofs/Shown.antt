-- The marks of a legal mapping are what it begins and carries.
use Rattle.std.proofs.Common.{◌≡◌, ℕ, suc, ◌+◌, ◌%◌, ◌<◌, Bool, true, false, cond, List, [], ◌∷◌, length, Option, Some, None, Contains, refl, sym, ap, ◌∙◌, subst, arith, inl, inr, ⊎_elim, eqb-true, eq-eqb}
use Rattle.std.specs.Prelude.{◌⊎◌, eqb, slice_get}
use Rattle.std.proofs.lemmas.Bool.{and_parts, and_from, both_ways}
use Rattle.std.proofs.lemmas.Option.{slice_get_within, get_or_from_slice_get, slice_get-get_or}
use Rattle.cg_model.specs.First.{first_from, first_such}
use Rattle.cg_model.specs.Kernel.{size}
use Rattle.cg_model.specs.Mapping.{Position, IsLegal, place, positions}
use Rattle.cg_model.proofs.Positions.{first_from_none}
use Rattle.cg_overlap.proofs.Facts.{slot_of, Contains-first, Contains-later}
use Rattle.cg_check.specs.Legal.{Mapped}
use Rattle.cg_check.proofs.Lists.{first_such_not}
use Rattle.cg_occupancy.specs.Marks.{stands_in, stays_in, start_at, stay_at, AreExact}

-- ---- what is found first passes the test

chosen : {X : Type 0} (b : Bool) (x : X) (o : Option X) (y : X) → cond b (Some x) o ≡ Some y → ((b ≡ true) × (x ≡ y)) ⊎ ((b ≡ false) × (o ≡ Some y))
chosen true x o y e = let same : x ≡ y = cc in inl (refl, same)
chosen false x o y e = inr (refl, e)

found_from : {X : Type 0} (t : ℕ → X → Bool) (i : ℕ) (xs : List X) (k : ℕ) → first_from t i xs ≡ Some k → (n : ℕ) × (x : X) × (k ≡ i + n) × (slice_get xs n ≡ Some x) × (t k x ≡ true)
found_from t i [] k e = let bad : None ≡ Some k = e in absurd (cc)
found_from t i (x ∷ xs) k e =
    ⊎_elim (λ h. let same = h.1 in (0, x, omega (arith, same), refl, subst (λ j. t j x ≡ true) same h.0))
    (λ h. let (n, y, a, b, c) = found_from t (i + 1) xs k h.1 in (suc n, y, omega (arith, a), b, c)) (chosen (t i x) i (first_from t (i + 1) xs) k e)

found_at : {X : Type 0} (t : ℕ → X → Bool) (xs : List X) (k : ℕ) → first_from t 0 xs ≡ Some k → (x : X) × (slice_get xs k ≡ Some x) × (t k x ≡ true)
found_at t xs k e =
    let (n, x, a, b, c) = found_from t 0 xs k e in
    let same : n ≡ k = omega (arith, a) in
    (x, subst (λ j. slice_get xs j ≡ Some x) same b, c)

found_such : {X : Type 0} (t : X → Bool) (xs : List X) (x : X) → first_such t xs ≡ Some x → Contains xs x × (t x ≡ true)
found_such t [] x e = let bad : None ≡ Some x = e in absurd (cc)
found_such t (y ∷ ys) x e =
    ⊎_elim (λ h. (subst (λ z. Contains (y ∷ ys) z) h.1 (Contains-first y ys), subst (λ z. t z ≡ true) h.1 h.0))
    (λ h. let (m, f) = found_such t ys x h.1 in (Contains-later x y ys m, f)) (chosen (t y) y (first_such t ys) x e)

either : {X : Type 0} (o : Option X) → (o ≡ None) ⊎ ((x : X) × (o ≡ Some x))
either None = inl refl
either (Some x) = inr (x, refl)

made : ℕ → ℕ → ℕ → Option ℕ → Position
made u r t q = record { source = u; resource = r; time = t; from = q }

same_position : (p q : Position) → p.source ≡ q.source → p.resource ≡ q.resource → p.time ≡ q.time → p.from ≡ q.from → p ≡ q
unfolding made
same_position p q a b c d =
    ap (λ z. made z p.resource p.time p.from) a ∙ ap (λ z. made q.source z p.time p.from) b ∙ ap (λ z. made q.source q.resource z p.from) c ∙ ap (made q.source q.resource q.time) d

-- ---- a legal mapping

module _ (m : Mapped) (legal : IsLegal m.arch m.kernel m.mapping) where
  start_is : (x s v : ℕ) → start_at m x s ≡ Some v → (v < size m.kernel) × ((place m.mapping v).unit ≡ x) × ((place m.mapping v).time % m.mapping.ii ≡ s)
  unfolding start_at
  start_is x s v e =
      let (p, at, on) = found_at (λ w q. stands_in m.mapping.ii x s q) m.mapping.places v e in
      let is : place m.mapping v ≡ p = get_or_from_slice_get m.mapping.places v p (record { unit = 0; time = 0 }) at in
      let (a, b) = and_parts (eqb p.unit x) (eqb (p.time % m.mapping.ii) s) on in
      let within = slice_get_within m.mapping.places v p at in
      let long = legal.shape.places in
      (omega (arith, within, long), ap (λ z. z.unit) is ∙ eqb-true _ _ a, ap (λ z. z.time % m.mapping.ii) is ∙ eqb-true _ _ b)

  start_some : (v : ℕ) → v < size m.kernel → start_at m (place m.mapping v).unit ((place m.mapping v).time % m.mapping.ii) ≡ None → ⊥
  unfolding start_at
  start_some v l none =
      let p = place m.mapping v in
      let long = legal.shape.places in
      let within : v < length m.mapping.places = omega (arith, l, long) in
      let at = slice_get-get_or m.mapping.places v (record { unit = 0; time = 0 }) within in
      let off = first_from_none (λ w q. stands_in m.mapping.ii p.unit (p.time % m.mapping.ii) q) 0 m.mapping.places v v p none at (omega arith) in
      both_ways (stands_in m.mapping.ii p.unit (p.time % m.mapping.ii) p) off (and_from _ _ (eq-eqb p.unit p.unit refl) (eq-eqb (p.time % m.mapping.ii) _ refl))

  -- the node that stands there is the one that is shown
  shown : (v : ℕ) → v < size m.kernel → start_at m (place m.mapping v).unit ((place m.mapping v).time % m.mapping.ii) ≡ Some v
  shown v l =
      let p = place m.mapping v in
      ⊎_elim (λ none. absurd (start_some v l none))
      (λ (some : (w : ℕ) × (start_at m p.unit (p.time % m.mapping.ii) ≡ Some w)).
      let (w, is) = some in
      let (lw, a, b) = start_is p.unit (p.time % m.mapping.ii) w is in
      is ∙ ap Some (legal.apart w v lw l a b))
      (either (start_at m p.unit (p.time % m.mapping.ii)))

  stay_is : (r s : ℕ) (p : Position) → stay_at m r s ≡ Some p → Contains (positions m.arch m.kernel m.mapping) p × (p.resource ≡ r) × (p.time % m.mapping.ii ≡ s)
  unfolding stay_at
  stay_is r s p e =
      let (there, on) = found_such (stays_in m.mapping.ii r s) (positions m.arch m.kernel m.mapping) p e in
      let (a, b) = and_parts (eqb p.resource r) (eqb (p.time % m.mapping.ii) s) on in
      (there, eqb-true _ _ a, eqb-true _ _ b)

  stay_some : (p : Position) → Contains (positions m.arch m.kernel m.mapping) p → stay_at m p.resource (p.time % m.mapping.ii) ≡ None → ⊥
  unfolding stay_at
  stay_some p there none =
      let off = first_such_not (stays_in m.mapping.ii p.resource (p.time % m.mapping.ii)) (positions m.arch m.kernel m.mapping) p none there in
      both_ways (stays_in m.mapping.ii p.resource (p.time % m.mapping.ii) p) off (and_from _ _ (eq-eqb p.resource p.resource refl) (eq-eqb (p.time % m.mapping.ii) _ refl))

  -- the position that is shown is each one there
  carried_there : (p : Position) → Contains (positions m.arch m.kernel m.mapping) p → stay_at m p.resource (p.time % m.mapping.ii) ≡ Some p
  carried_there p there =
      ⊎_elim (λ none. absurd (stay_some p there none))
      (λ (some : (q : Position) × (stay_at m p.resource (p.time % m.mapping.ii) ≡ Some q)).
      let (q, is) = some in
      let (mq, a, b) = stay_is p.resource (p.time % m.mapping.ii) q is in
      let (source, time) = legal.alone q p mq there a b in
      is ∙ ap Some (same_position q p source a time (legal.one_way q p mq there a b)))
      (either (stay_at m p.resource (p.time % m.mapping.ii)))

  pub are_exact : AreExact m
  are_exact = record {
    begins = λ x c v i (l, unit, cycle).
        let slot = slot_of c (place m.mapping v).time i m.mapping.ii cycle in
        ap (λ z. start_at m z (c % m.mapping.ii)) (sym unit) ∙ ap (start_at m (place m.mapping v).unit) slot ∙ shown v l;
    begun = λ x s v e.
        let (l, unit, slot) = start_is x s v e in
        ((l, unit, omega arith), slot);
    carries = λ r c v i (p, there, source, resource, cycle).
        let slot = slot_of c p.time i m.mapping.ii cycle in
        (p, ap (λ z. stay_at m z (c % m.mapping.ii)) (sym resource) ∙ ap (stay_at m p.resource) slot ∙ carried_there p there, source);
    carried = λ r s p e.
        let (there, resource, slot) = stay_is r s p e in
        ((p, there, refl, resource, omega arith), slot);
    goes = carried_there;
  }
