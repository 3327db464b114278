-- The least intervals of the kinds, and the least of all, as they are found one interval after another.
use Rattle.std.proofs.Common.{◌≡◌, ℕ, ◌+◌, ◌-◌, ◌<◌, ◌≤◌, max, List, [], ◌∷◌, ◌++◌, length, map, take, get_or, Contains, Option, Some, None, refl, sym, ap, ◌∙◌, subst, arith, inl, inr, ⊎_elim}
use Rattle.std.specs.Prelude.{◌⊎◌, unwrap_or}
use Rattle.std.proofs.lemmas.Bool.{cases_lt}
use Rattle.std.proofs.lemmas.List.{take_more, take_all, map-append}
use Rattle.std.proofs.lemmas.List.Elements.{Contains-get_or, Contains-push_cases}
use Rattle.cg_model.specs.Kernel.{Kernel, IsKernel}
use Rattle.cg_model.specs.Array.{Arch}
use Rattle.cg_model.proofs.Lookups.{Contains-nil}
use Rattle.cg_bound_registers.specs.declared.times.Times.{Times}
use Rattle.cg_bound_registers.specs.Sums.{table}
use Rattle.cg_bound_registers.specs.Times.{AreLoose}
use Rattle.cg_bound_all.specs.declared.reason.Kind.{Kind}
use Rattle.cg_bound_all.specs.declared.reason.Kind.TheVariants as kinds
use Rattle.cg_bound_all.specs.declared.reason.Reason.{Reason}
use Rattle.cg_bound_all.specs.declared.numbers.Numbers.{Numbers}
use Rattle.cg_bound_all.specs.declared.numbers.HopTables.{HopTables}
use Rattle.cg_bound_all.specs.declared.bounds.Bound.{Bound}
use Rattle.cg_bound_all.specs.declared.least.Verdict.{Verdict}
use Rattle.cg_bound_all.specs.declared.least.Verdict.TheVariants.{Excluded, Open}
use Rattle.cg_bound_all.specs.Why.{hops_at, numbers_at, IsExcluded, Shows, kind_of, Excludes, IsImpossible, IsLeastWithout, below_of, IsBound, AreBounds, all_kinds, IsShown, IsLeast, IsGiven, IsSaid}
use Rattle.cg_bound_all.specs.Scan.{IsFound, IsOther, IsVerdict, IsBoundTo, MayBegin, MayBeginAfter, IsLeastTo}
use Rattle.cg_bound_all.proofs.Reasons.{shown, no_registers}

-- a property of all numbers below one, and of that one
next : (P : ℕ → Type 0) (n : ℕ) → ((i : ℕ) → 1 ≤ i → i < n → P i) → P n → (i : ℕ) → 1 ≤ i → i < n + 1 → P i
next P n below here i l m = ⊎_elim (λ (h : i < n). below i l h) (λ (h : n ≤ i). let e : n ≡ i = omega arith in subst P e here) (cases_lt i n)

module _ (A : Arch) (K : Kernel) (f : HopTables) (kind : Kind) where
  pub bound_begins : IsBoundTo A K f kind 1 None
  bound_begins = record { excluded = λ i l m. absurd (omega arith); shown = omega arith }

  pub bound_next : (ii : ℕ) (n : Numbers) (found : Option Reason) (r : Reason) (below : Option Reason) → n ≡ numbers_at f ii → found ≡ Some r → IsFound A K (table n.hops.items) ii kind found → IsBoundTo A K f kind ii below → IsBoundTo A K f kind (ii + 1) (Some r)
  bound_next ii n found r below e is h to =
      let here : IsFound A K (hops_at f ii) ii kind (Some r) = subst (λ z. IsFound A K (table z.hops.items) ii kind (Some r)) e (subst (IsFound A K (table n.hops.items) ii kind) is h) in
      let there : Excludes A K f kind ii = subst (λ k. IsExcluded A K (hops_at f ii) ii k) here.1 (shown A K (hops_at f ii) ii r here.0) in
      let same : ii ≡ ii + 1 - 1 = omega arith in
      record {
        excluded = next (Excludes A K f kind) ii to.excluded there;
        shown = subst (λ z. IsShown A K f kind z (Some r)) same here;
      }

  pub bound_found : (ii : ℕ) (n : Numbers) (found below : Option Reason) → n ≡ numbers_at f ii → found ≡ None → 1 ≤ ii → ii ≤ A.contexts → IsFound A K (table n.hops.items) ii kind found → IsBoundTo A K f kind ii below →
      IsBound A K f (record { kind = kind; least = Some ii; below = below })
  bound_found ii n found below e is l m h to =
      let none : IsFound A K (hops_at f ii) ii kind None = subst (λ z. IsFound A K (table z.hops.items) ii kind None) e (subst (IsFound A K (table n.hops.items) ii kind) is h) in
      record { least = (l, m, none, to.excluded); below = to.shown }

  pub bound_none : (ii : ℕ) (below : Option Reason) → ii ≡ A.contexts + 1 → IsBoundTo A K f kind ii below → IsBound A K f (record { kind = kind; least = None; below = below })
  bound_none ii below e to =
      let same : ii - 1 ≡ A.contexts = omega arith in
      record { least = λ i l m. to.excluded i l (omega arith); below = subst (λ z. IsShown A K f kind z below) same to.shown }

module _ (A : Arch) (K : Kernel) (f : HopTables) (bounds : List Bound) where
  pub begins : MayBeginAfter A K f bounds 0 1
  begins =
      record {
        begin = record { some = omega arith; within = omega arith; below = λ i l m. absurd (omega arith); given = inl (omega arith) };
        above = λ bound has. absurd (Contains-nil bound has);
      }

  -- below a least interval of a kind
  ends : (bound : Bound) → Contains bounds bound → 1 ≤ A.contexts + 1 → IsBound A K f bound → MayBegin A K f bounds (unwrap_or bound.least (A.contexts + 1))
  ends bound inside some is = at bound.least refl is.least
    where
      at : (o : Option ℕ) → bound.least ≡ o → IsLeastWithout (Excludes A K f bound.kind) A.contexts o → MayBegin A K f bounds (unwrap_or o (A.contexts + 1))
      at (Some l) e (a, b, c, d) = record { some = a; within = omega arith; below = λ i l m. (bound.kind, d i l m); given = inr (bound, inside, ap (below_of A.contexts) e) }
      at None e d =
          let same : A.contexts ≡ A.contexts + 1 - 1 = omega arith in
          record { some = some; within = omega arith; below = λ i l m. (bound.kind, d i l (omega arith)); given = inr (bound, inside, ap (below_of A.contexts) e ∙ same) }

  either : (a b c : ℕ) → c ≡ max a b → MayBegin A K f bounds a → MayBegin A K f bounds b → MayBegin A K f bounds c
  either a b c e h k =
      ⊎_elim (λ (l : a < b). let same : b ≡ c = omega arith in subst (MayBegin A K f bounds) same k)
      (λ (l : b ≤ a). let same : a ≡ c = omega arith in subst (MayBegin A K f bounds) same h) (cases_lt a b)

  below_end : (o : Option ℕ) (l : ℕ) → 1 ≤ l → unwrap_or o (A.contexts + 1) ≤ l → below_of A.contexts o < l
  below_end (Some i) l s m = omega arith
  below_end None l s m = omega arith

  -- with the least interval of one more kind
  pub begin_next : (k : ℕ) (d : Bound) (a c : ℕ) → k < length bounds → IsBound A K f (get_or bounds k d) → c ≡ max a (unwrap_or (get_or bounds k d).least (A.contexts + 1)) → 1 ≤ A.contexts + 1 → MayBeginAfter A K f bounds k a →
      MayBeginAfter A K f bounds (k + 1) c
  begin_next k d a c l is e some may =
      let bound = get_or bounds k d in
      let s = may.begin.some in
      record {
        begin = either a (unwrap_or bound.least (A.contexts + 1)) c e may.begin (ends bound (Contains-get_or bounds k d l) some is);
        above = λ other has.
            ⊎_elim {C = below_of A.contexts other.least < c}
            (λ h. let m = may.above other h in omega arith)
            (λ (same : bound ≡ other). subst (λ (z : Bound). below_of A.contexts z.least < c) same (below_end bound.least c (omega arith) (omega arith)))
            (Contains-push_cases (take k bounds) bound other (subst (λ (z : List Bound). Contains z other) (take_more bounds k d l) has));
      }

  pub above_all : (k l : ℕ) → length bounds ≤ k → MayBeginAfter A K f bounds k l → (bound : Bound) → Contains bounds bound → below_of A.contexts bound.least < l
  above_all k l m may bound has = may.above bound (subst (λ (z : List Bound). Contains z bound) (sym (take_all k bounds m)) has)

  pub least_begins : (from : ℕ) → MayBegin A K f bounds from → ((bound : Bound) → Contains bounds bound → below_of A.contexts bound.least < from) → IsLeastTo A K f bounds from None
  least_begins from h above = record { some = h.some; above = above; each = h.below; said = h.given }

  -- no kind gives what excludes an interval above their least ones
  not_given : (l ii : ℕ) (below : Option Reason) → IsLeastTo A K f bounds l below → l ≤ ii → IsGiven A bounds ii → ⊥
  not_given l ii below to m (inl e) = let s = to.some in omega arith
  not_given l ii below to m (inr (bound, has, e)) = let b = to.above bound has in omega arith

  pub least_next : (ii : ℕ) (verdict : Verdict) (r : Reason) (below : Option Reason) → verdict ≡ Excluded r → IsVerdict A K f ii verdict → IsLeastTo A K f bounds ii below → IsLeastTo A K f bounds (ii + 1) (Some r)
  least_next ii verdict r below is h to =
      let here : Shows A K (hops_at f ii) ii r = subst (IsVerdict A K f ii) is h in
      let same : ii ≡ ii + 1 - 1 = omega arith in
      let s = to.some in
      record {
        some = omega arith;
        above = λ bound has. (let b = to.above bound has in omega arith);
        each = next (IsImpossible A K f) ii to.each (kind_of r, shown A K (hops_at f ii) ii r here);
        said = subst (λ z. IsSaid A K f bounds z (Some r)) same (here, not_given ii ii below to (omega arith));
      }

  pub least_found : (ii : ℕ) (verdict : Verdict) (t : Times) (below : Option Reason) → verdict ≡ Open t → 1 ≤ ii → ii ≤ A.contexts → IsVerdict A K f ii verdict → IsLeastTo A K f bounds ii below →
      IsLeast A K f bounds (record { interval = Some ii; times = Some t; below = below })
  least_found ii verdict t below is l m h to =
      let here : IsVerdict A K f ii (Open t) = subst (IsVerdict A K f ii) is h in
      record { least = (l, m, here.0, to.each); free = here.1; said = to.said }

  pub least_closed : (ii : ℕ) (r : Reason) (below : Option Reason) → ii ≤ A.contexts → ((i : ℕ) → ii ≤ i → i ≤ A.contexts → Shows A K (hops_at f i) i r) → IsLeastTo A K f bounds ii below →
      IsLeast A K f bounds (record { interval = None; times = None; below = Some r })
  least_closed ii r below l all to =
      record {
        least = λ i a b. ⊎_elim {C = IsImpossible A K f i} (λ (h : i < ii). to.each i a h) (λ (h : ii ≤ i). (kind_of r, shown A K (hops_at f i) i r (all i h b))) (cases_lt i ii);
        free = tt;
        said = (all A.contexts l (omega arith), not_given ii A.contexts below to l);
      }

  pub least_none : (ii : ℕ) (below : Option Reason) → ii ≡ A.contexts + 1 → IsLeastTo A K f bounds ii below → IsLeast A K f bounds (record { interval = None; times = None; below = below })
  least_none ii below e to =
      let same : ii - 1 ≡ A.contexts = omega arith in
      record { least = λ i l m. to.each i l (omega arith); free = tt; said = subst (λ z. IsSaid A K f bounds z below) same to.said }

module _ (A : Arch) (K : Kernel) (f : HopTables) where
  -- where nothing else excludes an interval, and its times fit, nothing does
  pub open_verdict : (ii : ℕ) (n : Numbers) (t : Times) → IsKernel K → n ≡ numbers_at f ii → IsOther A K (table n.hops.items) ii None → AreLoose A K (table n.hops.items) ii t → IsVerdict A K f ii (Open t)
  open_verdict ii n t good e other loose =
      let none : IsOther A K (hops_at f ii) ii None = subst (λ z. IsOther A K (table z.hops.items) ii None) e other in
      let free : AreLoose A K (hops_at f ii) ii t = subst (λ z. AreLoose A K (table z.hops.items) ii t) e loose in
      (λ (kind, h). by_kind none free kind h, free)
    where
      by_kind : IsOther A K (hops_at f ii) ii None → AreLoose A K (hops_at f ii) ii t → (kind : Kind) → Excludes A K f kind ii → ⊥
      by_kind none free kinds.Recurrence h = none.0 h
      by_kind none free kinds.Class h = none.1 h
      by_kind none free kinds.Ways h = none.2 h
      by_kind none free kinds.Registers h = no_registers A K (hops_at f ii) ii t good free h

  pub bound_pushed : (k : ℕ) (kinds : List Kind) (d : Kind) (bound : Bound) (bounds bounds' : List Bound) → kinds ≡ all_kinds → k < length kinds → bound.kind ≡ get_or kinds k d → bounds' ≡ bounds ++ bound ∷ [] → IsBound A K f bound → AreBounds A K f k bounds →
      AreBounds A K f (k + 1) bounds'
  bound_pushed k kinds d bound bounds bounds' e l is pushed good are =
      record {
        each = ap (map (λ (o : Bound). o.kind)) pushed ∙ map-append (λ (o : Bound). o.kind) bounds (bound ∷ []) ∙ ap (λ z. z ++ bound.kind ∷ []) are.each
            ∙ ap (λ z. take k all_kinds ++ z ∷ []) (is ∙ ap (λ z. get_or z k d) e) ∙ sym (take_more all_kinds k d (subst (λ z. k < length z) e l));
        right = λ o has. ⊎_elim (λ h. are.right o h) (λ h. subst (IsBound A K f) h good) (Contains-push_cases bounds bound o (subst (λ z. Contains z o) pushed has));
      }

  pub all_bounds : (k : ℕ) (kinds : List Kind) (bounds : List Bound) → kinds ≡ all_kinds → length kinds ≤ k → k ≤ length kinds → AreBounds A K f k bounds → AreBounds A K f 4 bounds
  all_bounds k kinds bounds e l m are = let n = ap length e in let four : k ≡ 4 = omega arith in subst (λ z. AreBounds A K f z bounds) four are
