-- What excludes an interval excludes others too: from 2 on a recurrence, an overfull set of operations and ways exclude
-- each lower one, and a certificate of registers each lower or each higher one.
use Rattle.std.proofs.Common.{◌≡◌, ℕ, ◌+◌, ◌*◌, ◌<◌, ◌≤◌, List, eqb, false, Option, Some, None, inl, inr, refl, sym, ◌∙◌, subst, arith, ⊎_elim, mul-le-mul_right}
use Rattle.std.specs.Prelude.{◌⊎◌}
use Rattle.std.proofs.lemmas.Bool.{cases_lt, ne_eqb}
use Rattle.cg_model.specs.Kernel.{Kernel}
use Rattle.cg_model.specs.Array.{Arch}
use Rattle.cg_recur.specs.Edges.{edge_of}
use Rattle.cg_recur.proofs.Chains.{fades}
use Rattle.cg_class.specs.Class.{units_for}
use Rattle.cg_bound_routes.specs.declared.missing.Missing.{Missing}
use Rattle.cg_bound_registers.specs.declared.certificate.Pressure.{Pressure}
use Rattle.cg_bound_registers.specs.Pressure.{IsPressure, Falls, Rises, registers, stays, pulls, ties}
use Rattle.cg_bound_registers.specs.Sums.{table}
use Rattle.cg_bound_registers.proofs.Intervals.{falls, rises}
use Rattle.cg_bound_recurrence.specs.WayCycles.{edge_with, IsWayCycle}
use Rattle.cg_bound_all.specs.declared.reason.Kind.{Kind}
use Rattle.cg_bound_all.specs.declared.reason.Kind.TheVariants as kinds
use Rattle.cg_bound_all.specs.declared.numbers.HopTables.{HopTables}
use Rattle.cg_bound_all.specs.declared.reason.Reason.{Reason}
use Rattle.cg_bound_all.specs.declared.reason.Reason.TheVariants.{Recurrence, Class, NoWay, Ways, Registers}
use Rattle.cg_bound_all.specs.Why.{Shows, kind_of, hops_at, HasNoWay, IsMissing, AreAllNumbers, Excludes}

module _ (A : Arch) (K : Kernel) (f : HopTables) where
  rest_at : (ii : ℕ) → 2 ≤ ii → hops_at f ii ≡ table f.rest.hops.items
  rest_at ii l = let b : eqb ii 1 ≡ false = ne_eqb ii 1 (λ e. omega arith) in rw b refl

  -- from 2 on one interval's numbers are the other's
  hops_same : (i m : ℕ) → 2 ≤ i → 2 ≤ m → hops_at f m ≡ hops_at f i
  hops_same i m l k = rest_at m k ∙ sym (rest_at i l)

  -- where some data edge has no way at one interval from 2 on, some has none at each other
  no_way : (i m v p : ℕ) → 2 ≤ i → 2 ≤ m → AreAllNumbers A K f → HasNoWay A K m v p → (w : ℕ) × (q : ℕ) × HasNoWay A K i w q
  no_way i m v p l k all none = at f.rest.missing (all.rest i l).missing (all.rest m k).missing
    where
      at : (o : Option Missing) → IsMissing A K i o → IsMissing A K m o → (w : ℕ) × (q : ℕ) × HasNoWay A K i w q
      at (Some x) here there = (x.node, x.arg, here)
      at None here there = absurd (there v p none)

  -- a reason other than registers excludes each lower interval from 2 on
  pub fading : (kind : Kind) (i m : ℕ) → (kind ≡ kinds.Registers → ⊥) → AreAllNumbers A K f → 2 ≤ i → i ≤ m → Excludes A K f kind m → Excludes A K f kind i
  fading kinds.Recurrence i m other all two l (ids, c) = (ids, fades (edge_of A K) m i ids l c)
  fading kinds.Class i m other all two l (set, over) =
      (set, (let h : i * units_for A.units set ≤ m * units_for A.units set = mul-le-mul_right (units_for A.units set) l in omega arith))
  fading kinds.Ways i m other all two l (inl (v, p, none)) = inl (no_way i m v p two (omega arith) all none)
  fading kinds.Ways i m other all two l (inr (ids, c)) =
      inr (ids, subst (λ z. IsWayCycle A K z i ids) (hops_same i m two (omega arith)) (fades (edge_with A K (hops_at f m)) m i ids l c))
  fading kinds.Registers i m other all two l h = absurd (other refl)

  falls_or_rises : (P : Pressure) → Falls A K P ⊎ Rises A K P
  falls_or_rises P =
      ⊎_elim {C = Falls A K P ⊎ Rises A K P} (λ l. inl (omega arith)) (λ l. inr l)
      (cases_lt (stays K P (λ a. a.distance)) (pulls K P (λ a. a.distance) + ties K P (λ a. a.distance) + registers A))

  -- a certificate of registers excludes each lower interval from 2 on
  falling : (P : Pressure) (i m : ℕ) → Falls A K P → 2 ≤ i → i ≤ m → IsPressure A K (hops_at f m) m P → IsPressure A K (hops_at f i) i P
  falling P i m fall l k p = subst (λ z. IsPressure A K z i P) (hops_same i m l (omega arith)) (falls A K (hops_at f m) i m P fall k p)

  -- or each higher one
  rising : (P : Pressure) (m i : ℕ) → Rises A K P → 2 ≤ m → m ≤ i → IsPressure A K (hops_at f m) m P → IsPressure A K (hops_at f i) i P
  rising P m i rise l k p = subst (λ z. IsPressure A K z i P) (hops_same i m (omega arith) l) (rises A K (hops_at f m) m i P rise k p)

  -- below an interval that no reason of a kind excludes, each interval from 2 on up to one that is excluded is excluded
  pub lower : (kind : Kind) (i m h : ℕ) → AreAllNumbers A K f → 2 ≤ i → i ≤ m → m < h → (Excludes A K f kind h → ⊥) → Excludes A K f kind m → Excludes A K f kind i
  lower kinds.Recurrence i m h all two l less free e = fading kinds.Recurrence i m (λ x. cc) all two l e
  lower kinds.Class i m h all two l less free e = fading kinds.Class i m (λ x. cc) all two l e
  lower kinds.Ways i m h all two l less free e = fading kinds.Ways i m (λ x. cc) all two l e
  lower kinds.Registers i m h all two l less free (P, p) =
      ⊎_elim
      (λ (fall : Falls A K P). (P, falling P i m fall two l p))
      (λ (rise : Rises A K P). absurd (free (P, rising P m h rise (omega arith) (omega arith) p)))
      (falls_or_rises P)

  -- a reason other than registers shows that each interval from 2 on up to one that it excludes is excluded
  pub others_below : (r : Reason) (m i : ℕ) → ((P : Pressure) → r ≡ Registers P → ⊥) → AreAllNumbers A K f → 2 ≤ i → i ≤ m → Shows A K (hops_at f m) m r → Excludes A K f (kind_of r) i
  others_below (Recurrence ids) m i other all l k h = fading kinds.Recurrence i m (λ x. cc) all l k (ids.items, h)
  others_below (Class set) m i other all l k h = fading kinds.Class i m (λ x. cc) all l k (set, h)
  others_below (NoWay x) m i other all l k h = fading kinds.Ways i m (λ e. cc) all l k (inl (x.node, x.arg, h))
  others_below (Ways ids) m i other all l k h = fading kinds.Ways i m (λ e. cc) all l k (inr (ids.items, h))
  others_below (Registers P) m i other all l k h = absurd (other P refl)

  module _ (r : Reason) (P : Pressure) (hops : List ℕ) (m i : ℕ) (is : r ≡ Registers P) (e : hops ≡ f.rest.hops.items) (two : 2 ≤ m) (h : Shows A K (hops_at f m) m r) where
    here : IsPressure A K (hops_at f m) m P
    here = (subst (Shows A K (hops_at f m) m) is h).0

    -- one of registers does if it excludes 2 as well
    pub registers_below : IsPressure A K (table hops) 2 P → 2 ≤ i → i ≤ m → Excludes A K f (kind_of r) i
    registers_below there l k =
        subst (λ z. Excludes A K f (kind_of z) i) (sym is) (
          P,
          ⊎_elim {C = IsPressure A K (hops_at f i) i P}
              (λ (fall : Falls A K P). falling P i m fall l k here)
              (λ (rise : Rises A K P). rising P 2 i rise (omega arith) l (subst (λ z. IsPressure A K (table z) 2 P) e there))
              (falls_or_rises P),
        )

    -- and excludes each higher one if it doesn't
    pub registers_above : (IsPressure A K (table hops) 2 P → ⊥) → m ≤ i → Shows A K (hops_at f i) i r
    registers_above not_there k =
        subst (Shows A K (hops_at f i) i) (sym is) (
          ⊎_elim {C = IsPressure A K (hops_at f i) i P}
              (λ (fall : Falls A K P). absurd (not_there (subst (λ z. IsPressure A K (table z) 2 P) (sym e) (falling P 2 m fall (omega arith) two here))))
              (λ (rise : Rises A K P). rising P m i rise two k here)
              (falls_or_rises P),
          (subst (Shows A K (hops_at f m) m) is h).1,
        )

    -- one of registers that excludes a higher one too excludes each between them
    pub registers_between : (b : ℕ) → IsPressure A K (table hops) b P → m ≤ i → i ≤ b → Shows A K (hops_at f i) i r
    registers_between b there k l =
        let high : IsPressure A K (hops_at f b) b P = subst (λ z. IsPressure A K z b P) (sym (rest_at b (omega arith))) (subst (λ z. IsPressure A K (table z) b P) e there) in
        subst (Shows A K (hops_at f i) i) (sym is) (
          ⊎_elim {C = IsPressure A K (hops_at f i) i P}
              (λ (fall : Falls A K P). falling P i b fall (omega arith) l high)
              (λ (rise : Rises A K P). rising P m i rise two k here)
              (falls_or_rises P),
          (subst (Shows A K (hops_at f m) m) is h).1,
        )
