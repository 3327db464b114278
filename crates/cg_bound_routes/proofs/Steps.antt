-- The steps of a search keep what is known of it.
use Rattle.std.proofs.Common.{◌≡◌, ◌≢◌, ℕ, ◌+◌, ◌<◌, ◌≤◌, ◌⊎◌, inl, inr, List, [], length, set, length-set, sym, ap, ◌∙◌, subst, arith, ⊎_elim, Contains}
use Rattle.std.specs.Prelude.{Option, Some, None, slice_index, replicate}
use Rattle.std.proofs.lemmas.Bool.{cases_eq, cases_lt}
use Rattle.std.proofs.lemmas.List.{get_or-set_same, get_or-set_other, get_or-replicate}
use Rattle.std.proofs.Math.ListN.{get_or-eq_default, length-replicate}
use Rattle.cg_model.specs.Array.{Arch, resource, delay}
use Rattle.cg_model.proofs.Lookups.{Contains-nil}
use Rattle.cg_bound_routes.specs.Search.{number, HasNumber, IsDue, IsUnderWay, IsNext, Reaches, AreBelow}
use Rattle.cg_bound_routes.proofs.Marks.{at_place}
use Rattle.cg_bound_routes.proofs.Paths.{leads_on, leads_here}

-- among resources without numbers none has one
pub none_numbered : (count r : ℕ) → number (replicate count None) r ≡ None
none_numbered count r =
    ⊎_elim {C = number (replicate count None) r ≡ None} (λ l. get_or-replicate count r None None l) (λ l. get_or-eq_default (replicate count None) None (rw length-replicate l))
    (cases_lt r count)

-- a search that begins
pub begins : (A : Arch) (ends : List ℕ) → AreBelow (length A.resources) ends → IsUnderWay A ends (replicate (length A.resources) None) 0 ends 0 []
begins A ends below = record {
  each = length-replicate (length A.resources) None;
  fronts = λ q c. (below q c, (q, c, leads_here A q));
  laters = λ q c. absurd (Contains-nil q c);
  low = λ q n is. let no = none_numbered (length A.resources) q in absurd (cc);
  begun = λ r c. inr (inl (c, omega arith));
  onward = λ q r n is c. let no = none_numbered (length A.resources) r in absurd (cc);
  passed = λ i l. absurd (omega arith);
  reached = omega arith;
}

module _ (A : Arch) (ends : List ℕ) (numbers : List (Option ℕ)) (level : ℕ) (front : List ℕ) (at : ℕ) (later : List ℕ) (s : IsUnderWay A ends numbers level front at later) where
  -- resources at the front that have numbers are passed
  pub skips : (next : ℕ) → IsNext numbers front at next → IsUnderWay A ends numbers level front next later
  skips next is = record {
    each = s.each;
    fronts = s.fronts;
    laters = s.laters;
    low = s.low;
    begun = s.begun;
    onward = s.onward;
    passed = λ i l. ⊎_elim {C = HasNumber numbers (slice_index front i)} (λ h. s.passed i h) (λ h. is.passed i h l) (cases_lt i at);
    reached = is.within;
  }

  -- what was at the front has a number
  front_passed : at ≡ length front → (q : ℕ) → Contains front q → HasNumber numbers q
  front_passed e q c =
      let (i, l, f) = at_place front q c in
      subst (HasNumber numbers) f (s.passed i (omega arith))

  due_risen : at ≡ length front → (q n : ℕ) → IsDue numbers level front later q n → IsDue numbers (level + 1) later [] q n
  due_risen e q n (inl w) = inl w
  due_risen e q n (inr (inl (c, le))) = let (m, is) = front_passed e q c in let h = s.low q m is in inl (m, is, omega arith)
  due_risen e q n (inr (inr (c, le))) = inr (inl (c, le))

  -- the next number
  pub rises : at ≡ length front → IsUnderWay A ends numbers (level + 1) later 0 []
  rises e = record {
    each = s.each;
    fronts = s.laters;
    laters = λ q c. absurd (Contains-nil q c);
    low = λ q n is. let h = s.low q n is in omega arith;
    begun = λ r c. due_risen e r 0 (s.begun r c);
    onward = λ q r n is c. due_risen e q (n + delay A r) (s.onward q r n is c);
    passed = λ i l. absurd (omega arith);
    reached = omega arith;
  }

  -- a resource gets its number, and its drivers wait
  module _ (r : ℕ) (front' later' : List ℕ) (none : number numbers r ≡ None) (here : Contains front r) where
    abbrev with_it : List (Option ℕ)
    with_it = set numbers r (Some level)

    known : r < length A.resources
    known = (s.fronts r here).0

    at_it : number with_it r ≡ Some level
    at_it = let h = known in let e = s.each in get_or-set_same numbers r (Some level) None (omega arith)

    elsewhere : (q : ℕ) → q ≢ r → number with_it q ≡ number numbers q
    elsewhere q ne = get_or-set_other numbers r q (Some level) None ne

    kept : (q m : ℕ) → number numbers q ≡ Some m → number with_it q ≡ Some m
    kept q m is =
        ⊎_elim {C = number with_it q ≡ Some m} (λ e. let no : number numbers q ≡ None = subst (λ z. number numbers z ≡ None) (sym e) none in absurd (cc)) (λ ne. elsewhere q ne ∙ is)
        (cases_eq q r)

    module _ (front_kept : (q : ℕ) → Contains front q → Contains front' q) (later_kept : (q : ℕ) → Contains later q → Contains later' q) where
      due_kept : (q n : ℕ) → IsDue numbers level front later q n → IsDue with_it level front' later' q n
      due_kept q n (inl (m, is, le)) = inl (m, kept q m is, le)
      due_kept q n (inr (inl (c, le))) = inr (inl (front_kept q c, le))
      due_kept q n (inr (inr (c, le))) = inr (inr (later_kept q c, le))

      pub settles : ((q : ℕ) → Contains front' q → Contains front q ⊎ (Contains (resource A r).drivers q × (delay A r ≡ 0))) →
          ((q : ℕ) → Contains later' q → Contains later q ⊎ (Contains (resource A r).drivers q × (delay A r ≡ 1))) →
          ((q : ℕ) → Contains (resource A r).drivers q → (Contains front' q × (delay A r ≡ 0)) ⊎ (Contains later' q × (delay A r ≡ 1))) →
          ((q : ℕ) → Contains (resource A r).drivers q → q < length A.resources) →
          ((i : ℕ) → i < at → slice_index front' i ≡ slice_index front i) → at ≤ length front' →
          IsUnderWay A ends with_it level front' at later'
      settles front_new later_new wait drivers_known prefix long = record {
        each = length-set numbers r (Some level) ∙ s.each;
        fronts = λ q c.
            ⊎_elim {C = (q < length A.resources) × Reaches A ends q level} (λ h. s.fronts q h)
            (λ (h, z). let (e, i, w) = (s.fronts r here).1 in
            let same : level + delay A r ≡ level = omega arith in
            (drivers_known q h, subst (Reaches A ends q) same (e, i, leads_on A q r e level h w)))
            (front_new q c);
        laters = λ q c.
            ⊎_elim {C = (q < length A.resources) × Reaches A ends q (level + 1)} (λ h. s.laters q h)
            (λ (h, z). let (e, i, w) = (s.fronts r here).1 in
            let same : level + delay A r ≡ level + 1 = omega arith in
            (drivers_known q h, subst (Reaches A ends q) same (e, i, leads_on A q r e level h w)))
            (later_new q c);
        low = λ q n is.
            ⊎_elim {C = n ≤ level} (λ e. let a : number with_it q ≡ Some level = subst (λ z. number with_it z ≡ Some level) (sym e) at_it in let same : n ≡ level = cc in omega arith)
            (λ ne. s.low q n (sym (elsewhere q ne) ∙ is))
            (cases_eq q r);
        begun = λ e c. due_kept e 0 (s.begun e c);
        onward = λ q x n is c.
            ⊎_elim {C = IsDue with_it level front' later' q (n + delay A x)}
            (λ e. let a : number with_it x ≡ Some level = subst (λ z. number with_it z ≡ Some level) (sym e) at_it in
            let same : n ≡ level = cc in
            let c' : Contains (resource A r).drivers q = subst (λ z. Contains (resource A z).drivers q) e c in
            let d = ap (delay A) e in
            ⊎_elim {C = IsDue with_it level front' later' q (n + delay A x)} (λ (f, z). inr (inl (f, omega arith))) (λ (f, z). inr (inr (f, omega arith))) (wait q c'))
            (λ ne. due_kept q (n + delay A x) (s.onward q x n (sym (elsewhere x ne) ∙ is) c))
            (cases_eq x r);
        passed = λ i l. let (m, is) = s.passed i l in (m, subst (λ z. number with_it z ≡ Some m) (sym (prefix i l)) (kept (slice_index front i) m is));
        reached = long;
      }
