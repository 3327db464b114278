-- The best way on, over one user more.
use Rattle.std.proofs.Common.{◌≡◌, ℕ, ◌+◌, ◌<◌, ◌≤◌, Option, Some, None, refl, sym, ap, ◌∙◌, subst, arith, ⊎_elim, inl, inr}
use Rattle.std.specs.Prelude.{◌⊎◌}
use Rattle.std.proofs.lemmas.Bool.{cases_lt, cases_eq, lt-ltb, le-ltb, eq-eqb, ne_eqb}
use Rattle.cg_route.specs.Layers.{Step, better, held, no_way, IsChoice, IsBest}

-- the same users go on for the same prices
pub best_same : (U V : ℕ → Type 0) (rest other : ℕ → Option Step) (price : ℕ → ℕ) (e : Option Step) → ((x : ℕ) → U x → V x) → ((x : ℕ) → V x → U x) →
    ((x : ℕ) → V x → rest x ≡ other x) → IsBest U rest price e → IsBest V other price e
best_same U V rest other price None to from same h = λ x v. sym (same x v) ∙ h x (from x v)
best_same U V rest other price (Some s) to from same h =
    record {
      next = to s.next h.next;
      after = h.after;
      goes_on = sym (same s.next (to s.next h.next)) ∙ h.goes_on;
      is = h.is;
      least = λ x o v e. h.least x o (from x v) (same x v ∙ e);
    }

-- and where the prices are the same
pub best_price : (U : ℕ → Type 0) (rest : ℕ → Option Step) (price other : ℕ → ℕ) (e : Option Step) → ((x : ℕ) → U x → price x ≡ other x) → IsBest U rest price e → IsBest U rest other e
best_price U rest price other None same h = h
best_price U rest price other (Some s) same h =
    record {
      next = h.next;
      after = h.after;
      goes_on = h.goes_on;
      is = h.is ∙ ap (λ p. p + h.after.price) (same s.next h.next);
      least = λ x o u e. let z = same x u in ⊎_elim (λ a. inl (omega (arith, a, z))) (λ a. inr (omega (arith, a.0, z), a.1)) (h.least x o u e);
    }

-- whichever is taken of what was found and of a new way
better_new : (s : Step) (p r : ℕ) → (p < s.price) ⊎ ((p ≡ s.price) × (r < s.next)) → better (Some s) p r ≡ Some (record { price = p; next = r })
better_new s p r (inl a) = rw (lt-ltb p s.price a) refl
better_new s p r (inr a) = rw (le-ltb p s.price (omega (arith, a.0)), eq-eqb p s.price a.0, lt-ltb r s.next a.1) refl

better_old : (s : Step) (p r : ℕ) → (s.price < p) ⊎ ((s.price ≡ p) × (s.next ≤ r)) → better (Some s) p r ≡ Some s
better_old s p r (inl a) = rw (le-ltb p s.price (omega arith), ne_eqb p s.price (λ e. omega (arith, e, a))) refl
better_old s p r (inr a) = rw (le-ltb p s.price (omega (arith, a.0)), eq-eqb p s.price (sym a.0), le-ltb r s.next a.1) refl

better_cases : (s : Step) (p r : ℕ) → ((p < s.price) ⊎ ((p ≡ s.price) × (r < s.next))) ⊎ ((s.price < p) ⊎ ((s.price ≡ p) × (s.next ≤ r)))
better_cases s p r =
    ⊎_elim (λ a. inl (inl a))
    (λ (a : s.price ≤ p).
    ⊎_elim (λ b. inr (inl b))
    (λ (b : p ≤ s.price).
    let e : p ≡ s.price = omega arith in
    ⊎_elim (λ c. inl (inr (e, c))) (λ c. inr (inr (sym e, c))) (cases_lt r s.next))
    (cases_lt s.price p))
    (cases_lt p s.price)

-- what is held in numbers
pub held_some : (price next : ℕ) → price < no_way → held price next ≡ Some (record { price = price; next = next })
held_some price next small = rw (ne_eqb price no_way (λ e. omega (arith, e, small))) refl

-- after one way more that costs less
pub held_less : (price next p r : ℕ) → p < no_way → p < price → held p r ≡ better (held price next) p r
held_less price next p r small less =
    ⊎_elim
    (λ (a : price ≡ no_way). let old : held price next ≡ None = rw (eq-eqb price no_way a) refl in held_some p r small ∙ ap (λ e. better e p r) (sym old))
    (λ (a : price ≡ no_way → ⊥).
    let old : held price next ≡ Some (record { price = price; next = next }) = rw (ne_eqb price no_way a) refl in
    held_some p r small ∙ sym (ap (λ e. better e p r) old ∙ better_new (record { price = price; next = next }) p r (inl less)))
    (cases_eq price no_way)

-- and after one more that doesn't, to a higher number
pub held_more : (price next p r : ℕ) → p < no_way → price ≤ p → next ≤ r → held price next ≡ better (held price next) p r
held_more price next p r small most before =
    let old : held price next ≡ Some (record { price = price; next = next }) = held_some price next (omega arith) in
    old ∙ sym (ap (λ e. better e p r) old ∙ better_old (record { price = price; next = next }) p r (⊎_elim (λ (a : price < p). inl a) (λ (a : p ≤ price). inr (omega arith, before)) (cases_lt price p)))

module _ (U V : ℕ → Type 0) (rest : ℕ → Option Step) (price : ℕ → ℕ) (r : ℕ) (to : (x : ℕ) → U x → V x) (from : (x : ℕ) → V x → U x ⊎ (r ≡ x)) where
  -- from one user more there is no way on
  pub best_skip : (e : Option Step) → rest r ≡ None → IsBest U rest price e → IsBest V rest price e
  best_skip None none h = λ x v. ⊎_elim (λ a. h x a) (λ (a : r ≡ x). subst (λ y. rest y ≡ None) a none) (from x v)
  best_skip (Some s) none h =
      record {
        next = to s.next h.next;
        after = h.after;
        goes_on = h.goes_on;
        is = h.is;
        least = λ x o v e.
            ⊎_elim (λ a. h.least x o a e) (λ (a : r ≡ x). let z : rest x ≡ None = subst (λ y. rest y ≡ None) a none in absurd (cc)) (from x v);
      }

  module _ (o : Step) (own : V r) (on : rest r ≡ Some o) where
    -- the new one is taken
    takes : ((x : ℕ) (w : Step) → U x → rest x ≡ Some w → (price r + o.price < price x + w.price) ⊎ ((price r + o.price ≡ price x + w.price) × (r ≤ x))) →
        IsChoice V rest price (record { price = price r + o.price; next = r })
    takes others =
        record {
          next = own;
          after = o;
          goes_on = on;
          is = refl;
          least = λ x w v e.
              ⊎_elim (λ a. others x w a e)
              (λ (a : r ≡ x).
              let z : rest x ≡ Some o = subst (λ y. rest y ≡ Some o) a on in
              let same : o ≡ w = cc in
              inr (ap (λ y. price y + o.price) a ∙ ap (λ (y : Step). price x + y.price) same, omega (arith, a)))
              (from x v);
        }

    -- or the old one is kept
    keeps : (s : Step) → (s.price < price r + o.price) ⊎ ((s.price ≡ price r + o.price) × (s.next ≤ r)) → IsChoice U rest price s → IsChoice V rest price s
    keeps s le h =
        record {
          next = to s.next h.next;
          after = h.after;
          goes_on = h.goes_on;
          is = h.is;
          least = λ x w v e.
              ⊎_elim (λ a. h.least x w a e)
              (λ (a : r ≡ x).
              let z : rest x ≡ Some o = subst (λ y. rest y ≡ Some o) a on in
              let same : o ≡ w = cc in
              let p : price r + o.price ≡ price x + w.price = ap (λ y. price y + o.price) a ∙ ap (λ (y : Step). price x + y.price) same in
              ⊎_elim (λ b. inl (omega (arith, b, p))) (λ b. inr (b.0 ∙ p, omega (arith, a, b.1))) le)
              (from x v);
        }

    -- from one user more there is a way on
    pub best_more : (e : Option Step) → IsBest U rest price e → IsBest V rest price (better e (price r + o.price) r)
    best_more None h = takes (λ x w u e. let z = h x u in absurd (cc))
    best_more (Some s) h =
        ⊎_elim
        (λ a.
        subst (λ e. IsBest V rest price e) (sym (better_new s (price r + o.price) r a))
        (takes (λ x w u e.
        ⊎_elim
        (λ (b : s.price < price x + w.price). ⊎_elim (λ c. inl (omega (arith, b, c))) (λ c. inl (omega (arith, b, c.0))) a)
        (λ b. ⊎_elim (λ c. inl (omega (arith, b.0, c))) (λ c. inr (omega (arith, b.0, c.0), omega (arith, b.1, c.1))) a)
        (h.least x w u e))))
        (λ a. subst (λ e. IsBest V rest price e) (sym (better_old s (price r + o.price) r a)) (keeps s a h))
        (better_cases s (price r + o.price) r)
