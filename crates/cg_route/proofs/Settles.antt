-- The ways on through resources to which links have no delay, from the end of the order back: when
-- one is visited, those that it drives have their entries.
use Rattle.std.proofs.Common.{◌≡◌, ◌≢◌, ℕ, ◌+◌, ◌-◌, ◌<◌, ◌≤◌, eqb, true, false, length, get_or, Option, Some, None, refl, sym, ap, ◌∙◌, subst, arith, ⊎_elim, inl, inr, eqb-true, length-set}
use Rattle.std.specs.Prelude.{◌⊎◌, ◌&&◌}
use Rattle.std.specs.List.{list_any}
use Rattle.std.proofs.lemmas.Bool.{cases_lt, cases_eq, cases_Bool, eq-eqb, and_parts}
use Rattle.std.proofs.lemmas.List.{get_or-set_same, get_or-set_other}
use Rattle.cg_route.specs.Layers.{Step, Sought, Layer, size, rank, at, onward, drivers, Drives, IsOpen, delay_into, link, cost, better, entered, IsBest, IsEntry, IsLayer, IsOffered, IsPassed, IsVisited, IsBegun, IsSettled}
use Rattle.cg_route.proofs.Ranks.{IsRanked, driven}
use Rattle.cg_route.proofs.Best.{best_same, best_skip, best_more}
use Rattle.cg_route.proofs.Begins.{one_or_none, onward_now, onward_later, no_driver, cost_now}
use Rattle.cg_mrrg.proofs.After.{is_driver}

module _ (S : Sought) (ranked : IsRanked S) (k t : ℕ) (later : Layer) where
  -- through q's users of no delay, and those after place p of the order
  abbrev Open : ℕ → ℕ → ℕ → Type 0
  Open p q x = Drives S q x × ((delay_into S x ≡ 1) ⊎ (p ≤ rank S x))

  pub settled_start : (here : Layer) (n : ℕ) → n ≡ size S → IsBegun S t n later here → IsSettled S k t n later here
  settled_start here n is h =
      record {
        all = h.all;
        entries = λ q l m. let p = (ranked.placed q l.0).0 in absurd (omega arith);
        others = λ q l m.
            best_same (λ x. Drives S q x × (delay_into S x ≡ 1) × (x < n)) (Open n q) (at later) (onward S here later) (cost S q t) (at here q)
            (λ x u. (u.0, inl u.1))
            (λ x v. (v.0, ⊎_elim (λ a. a) (λ (a : n ≤ rank S x). let p = (ranked.placed x (driven S q x v.0)).0 in absurd (omega arith)) v.1, (let w = driven S q x v.0 in omega arith)))
            (λ x v. ⊎_elim (λ a. sym (onward_later S here later x a)) (λ (a : n ≤ rank S x). let p = (ranked.placed x (driven S q x v.0)).0 in absurd (omega arith)) v.1)
            (h.each q l);
      }

  pub settled_end : (here : Layer) → IsSettled S k t 0 later here → IsLayer S k t later here
  settled_end here h = record { all = h.all; entries = λ q l. h.entries q l (omega arith) }

  -- ---- one visit

  module _ (p r : ℕ) (old : Layer) (known : r < size S) (place : rank S r ≡ p) (h : IsSettled S k t (p + 1) later old) where
    abbrev mid : Layer
    mid = entered S k r old

    one_place : (x : ℕ) → x < size S → rank S x ≡ p → x ≡ r
    one_place x l e = sym (ranked.placed x l).1 ∙ ap (λ i. get_or S.order i 0) (e ∙ sym place) ∙ (ranked.placed r known).1

    mid_other : (x : ℕ) → x ≢ r → at mid x ≡ at old x
    mid_other x ne =
        ⊎_elim
        (λ (b : (eqb k 0 && eqb r S.to) ≡ true). rw b (get_or-set_other old r x (Some (record { price = 0; next = r })) None ne))
        (λ (b : (eqb k 0 && eqb r S.to) ≡ false). rw b refl)
        (cases_Bool (eqb k 0 && eqb r S.to))

    mid_end : r ≡ S.to → k ≡ 0 → at mid r ≡ Some (record { price = 0; next = S.to })
    mid_end a b =
        let all = h.all in
        rw (eq-eqb k 0 b, eq-eqb r S.to a) (get_or-set_same old r (Some (record { price = 0; next = r })) None (omega arith) ∙ ap (λ x. Some (record { price = 0; next = x })) a)

    mid_before : ((r ≡ S.to) × (k ≡ 0) → ⊥) → mid ≡ old
    mid_before never =
        ⊎_elim
        (λ (b : (eqb k 0 && eqb r S.to) ≡ true). let c = and_parts (eqb k 0) (eqb r S.to) b in absurd (never (eqb-true r S.to c.1, eqb-true k 0 c.0)))
        (λ (b : (eqb k 0 && eqb r S.to) ≡ false). rw b refl)
        (cases_Bool (eqb k 0 && eqb r S.to))

    mid_all : length mid ≡ size S
    mid_all =
        ⊎_elim
        (λ (b : (eqb k 0 && eqb r S.to) ≡ true). rw b (length-set old r (Some (record { price = 0; next = r })) ∙ h.all))
        (λ (b : (eqb k 0 && eqb r S.to) ≡ false). rw b h.all)
        (cases_Bool (eqb k 0 && eqb r S.to))

    -- where x isn't r, it is gone on from as before
    on_mid : (x : ℕ) → (delay_into S x ≡ 1) ⊎ (p + 1 ≤ rank S x) → onward S old later x ≡ onward S mid later x
    on_mid x c =
        ⊎_elim
        (λ (a : delay_into S x ≡ 0).
        let ne : x ≢ r = λ e. ⊎_elim (λ (y : delay_into S x ≡ 1). omega (arith, a, y)) (λ (y : p + 1 ≤ rank S x). let z = ap (λ j. rank S j) e in omega (arith, z, y, place)) c in
        onward_now S old later x a ∙ sym (mid_other x ne) ∙ sym (onward_now S mid later x a))
        (λ (a : delay_into S x ≡ 1). onward_later S old later x a ∙ sym (onward_later S mid later x a))
        (one_or_none S x)

    -- the users of what stands at place p or later
    users : (q x : ℕ) → p ≤ rank S q → Drives S q x → (delay_into S x ≡ 1) ⊎ (p + 1 ≤ rank S x)
    users q x l d = ⊎_elim (λ (a : delay_into S x ≡ 0). let up = ranked.rises q x d a in inr (omega arith)) (λ a. inl a) (one_or_none S x)

    mid_entry : (q : ℕ) → IsOpen S q → p ≤ rank S q → IsEntry S k t q (onward S mid later) (at mid q)
    mid_entry q l m =
        ⊎_elim
        (λ (e : q ≡ r).
        subst (λ y. IsEntry S k t y (onward S mid later) (at mid y)) (sym e)
        (record {
          at_end = λ a b. mid_end a b;
          before = λ never.
              subst (λ o. IsBest (Drives S r) (onward S mid later) (cost S r t) o) (ap (λ l. at l r) (sym (mid_before never)))
              (best_same (Open (p + 1) r) (Drives S r) (onward S old later) (onward S mid later) (cost S r t) (at old r) (λ x u. u.0)
              (λ x d. (d, users r x (omega arith) d)) (λ x d. on_mid x (users r x (omega arith) d)) (h.others r (subst (λ y. IsOpen S y) e l) (omega arith)));
        }))
        (λ (ne : q ≢ r).
        let more : p + 1 ≤ rank S q = ⊎_elim (λ y. y) (λ (y : rank S q < p + 1). absurd (ne (one_place q l.0 (omega arith)))) (⊎_elim (λ y. inr y) (λ y. inl y) (cases_lt (rank S q) (p + 1))) in
        let e = h.entries q l more in
        subst (λ o. IsEntry S k t q (onward S mid later) o) (sym (mid_other q ne))
        (record {
          at_end = e.at_end;
          before = λ never. best_same (Drives S q) (Drives S q) (onward S old later) (onward S mid later) (cost S q t) (at old q) (λ x d. d) (λ x d. d) (λ x d. on_mid x (users q x m d)) (e.before never);
        }))
        (cases_eq q r)

    mid_open : (q : ℕ) → IsOpen S q → rank S q < p → IsBest (Open (p + 1) q) (onward S mid later) (cost S q t) (at mid q)
    mid_open q l m =
        let ne : q ≢ r = λ e. let z = ap (λ j. rank S j) e in omega (arith, z, m, place) in
        subst (λ o. IsBest (Open (p + 1) q) (onward S mid later) (cost S q t) o) (sym (mid_other q ne))
        (best_same (Open (p + 1) q) (Open (p + 1) q) (onward S old later) (onward S mid later) (cost S q t) (at old q) (λ x u. u) (λ x u. u) (λ x u. on_mid x u.1) (h.others q l (omega arith)))

    to : (q x : ℕ) → Open (p + 1) q x → Open p q x
    to q x u = (u.0, ⊎_elim (λ a. inl a) (λ (a : p + 1 ≤ rank S x). inr (omega arith)) u.1)

    from : (q x : ℕ) → Open p q x → Open (p + 1) q x ⊎ (r ≡ x)
    from q x v =
        ⊎_elim (λ a. inl (v.0, inl a))
        (λ (a : p ≤ rank S x).
        ⊎_elim (λ (b : p < rank S x). inl (v.0, inr (omega arith))) (λ (b : rank S x ≤ p). inr (sym (one_place x (driven S q x v.0) (omega arith)))) (cases_lt p (rank S x)))
        v.1

    -- r brings q no way on that wasn't seen
    same_as : (q : ℕ) → IsOpen S q → rank S q < p → (Drives S q r → (delay_into S r ≡ 1)) → IsBest (Open p q) (onward S mid later) (cost S q t) (at mid q)
    same_as q l m only =
        best_same (Open (p + 1) q) (Open p q) (onward S mid later) (onward S mid later) (cost S q t) (at mid q) (to q)
        (λ x v. ⊎_elim (λ u. u) (λ (e : r ≡ x). (v.0, inl (subst (λ y. delay_into S y ≡ 1) e (only (subst (λ y. Drives S q y) (sym e) v.0))))) (from q x v))
        (λ x v. refl) (mid_open q l m)

    module _ (new : Layer) (o : Step) (none : delay_into S r ≡ 0) (is : at mid r ≡ Some o) (w : IsOffered S t r o.price mid new) where
      -- those at place p or later aren't offered it
      kept : (x : ℕ) → p ≤ rank S x → at new x ≡ at mid x
      kept x m =
          ⊎_elim
          (λ (a : list_any (eqb x) (drivers S r) ≡ true). let up = ranked.rises x r (is_driver (drivers S r) x a) none in absurd (omega arith))
          (λ (a : list_any (eqb x) (drivers S r) ≡ false). w.others x a)
          (cases_Bool (list_any (eqb x) (drivers S r)))

      on_new : (x : ℕ) → (delay_into S x ≡ 1) ⊎ (p ≤ rank S x) → onward S mid later x ≡ onward S new later x
      on_new x c =
          ⊎_elim
          (λ (a : delay_into S x ≡ 0).
          let m : p ≤ rank S x = ⊎_elim (λ (y : delay_into S x ≡ 1). absurd (omega (arith, a, y))) (λ y. y) c in
          onward_now S mid later x a ∙ sym (kept x m) ∙ sym (onward_now S new later x a))
          (λ (a : delay_into S x ≡ 1). onward_later S mid later x a ∙ sym (onward_later S new later x a))
          (one_or_none S x)

      further : (q x : ℕ) → p ≤ rank S q → Drives S q x → (delay_into S x ≡ 1) ⊎ (p ≤ rank S x)
      further q x l d = ⊎_elim (λ a. inl a) (λ (a : p + 1 ≤ rank S x). inr (omega arith)) (users q x l d)

      offered : IsSettled S k t p later new
      offered =
          record {
            all = w.all ∙ mid_all;
            entries = λ q l m.
                let e = mid_entry q l m in
                subst (λ o. IsEntry S k t q (onward S new later) o) (sym (kept q m))
                (record {
                  at_end = e.at_end;
                  before = λ never. best_same (Drives S q) (Drives S q) (onward S mid later) (onward S new later) (cost S q t) (at mid q) (λ x d. d) (λ x d. d) (λ x d. on_new x (further q x m d)) (e.before never);
                });
            others = λ q l m.
                ⊎_elim
                (λ (a : list_any (eqb q) (drivers S r) ≡ true).
                let price : cost S q t r ≡ link S t r q = cost_now S q t t r (ap (λ d. t + d) none ∙ omega arith) in
                let now : at new q ≡ better (at mid q) (cost S q t r + o.price) r = w.drivers q a ∙ ap (λ c. better (at mid q) (c + o.price) r) (sym price) in
                subst (λ e. IsBest (Open p q) (onward S new later) (cost S q t) e) (sym now)
                (best_same (Open p q) (Open p q) (onward S mid later) (onward S new later) (cost S q t) _ (λ x v. v) (λ x v. v) (λ x v. on_new x v.1)
                (best_more (Open (p + 1) q) (Open p q) (onward S mid later) (cost S q t) r (to q) (from q) o (is_driver (drivers S r) q a, inr (omega arith)) (onward_now S mid later r none ∙ is) (at mid q) (mid_open q l m))))
                (λ (a : list_any (eqb q) (drivers S r) ≡ false).
                subst (λ e. IsBest (Open p q) (onward S new later) (cost S q t) e) (sym (w.others q a))
                (best_same (Open p q) (Open p q) (onward S mid later) (onward S new later) (cost S q t) (at mid q) (λ x v. v) (λ x v. v) (λ x v. on_new x v.1)
                (same_as q l m (λ d. absurd (no_driver (drivers S r) q a d)))))
                (cases_Bool (list_any (eqb q) (drivers S r)));
          }

    passed : (new : Layer) (e : Option Step) → e ≡ at mid r → delay_into S r ≡ 0 → IsPassed S t r e mid new → IsSettled S k t p later new
    passed new None is none w =
        subst (λ l. IsSettled S k t p later l) (sym w)
        (record {
          all = mid_all;
          entries = mid_entry;
          others = λ q l m. best_skip (Open (p + 1) q) (Open p q) (onward S mid later) (cost S q t) r (to q) (from q) (at mid q) (onward_now S mid later r none ∙ sym is) (mid_open q l m);
        })
    passed new (Some o) is none w = offered new o none (sym is) w

    pub settled_more : (new : Layer) → t ≡ S.end - k → IsVisited S k r old new → IsSettled S k t p later new
    settled_more new time v =
        ⊎_elim
        (λ (a : delay_into S r ≡ 0). passed new (at mid r) refl a (subst (λ s. IsPassed S s r (at mid r) mid new) (sym time) (v.0 a)))
        (λ (a : delay_into S r ≡ 1).
        subst (λ l. IsSettled S k t p later l) (sym (v.1 a))
        (record { all = mid_all; entries = mid_entry; others = λ q l m. same_as q l m (λ d. a) }))
        (one_or_none S r)
