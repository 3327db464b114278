-- Where a search begins: there is such an interval, and what it says of those below it and above.
use Rattle.std.proofs.Common.{◌≡◌, ℕ, ◌+◌, ◌<◌, ◌≤◌, Option, Some, None, refl, sym, subst, arith, inl, inr, ⊎_elim}
use Rattle.std.specs.Prelude.{◌⊎◌}
use Rattle.std.proofs.lemmas.Bool.{cases_lt}
use Rattle.cg_model.specs.Kernel.{Kernel, IsKernel}
use Rattle.cg_model.specs.Array.{Arch, IsArch}
use Rattle.cg_model.specs.Mapping.{Mapping, IsLegal}
use Rattle.cg_recur.specs.Recurrences.{HasNoRecurrence}
use Rattle.cg_bound.proofs.Intervals.{free_above}
use Rattle.cg_distance.proofs.Searches.{Decided, first_below}
use Rattle.cg_intervals.specs.Intervals.{IsAsked, last_tried}
use Rattle.cg_bound_all.specs.declared.reason.Kind.{Kind}
use Rattle.cg_bound_all.specs.declared.reason.Kind.TheVariants as kinds
use Rattle.cg_bound_all.specs.declared.reason.Reason.{Reason}
use Rattle.cg_bound_all.specs.declared.numbers.HopTables.{HopTables}
use Rattle.cg_bound_all.specs.Why.{AreHops, AreAllNumbers, hops_at, IsExcluded, Shows, kind_of, IsLeastWithout, IsImpossible, IsExclusion, numbers_at}
use Rattle.cg_bound_all.specs.Scan.{IsFound}
use Rattle.cg_bound_all.proofs.Reasons.{shown, none_excludes, numbers_for}
use Rattle.cg_bound_all.proofs.Tables.{some_hops}
use Rattle.cg_bound_all.proofs.Exclusions.{some_reason}
use Rattle.cg_search.specs.declared.begin.Exclusion.{Exclusion}
use Rattle.cg_search.specs.declared.begin.Begin.TheVariants.{At, Nowhere}
use Rattle.cg_search.specs.Begin.{first_asked, IsBegin, ExcludesAt, Begins}
use Rattle.cg_search.specs.Course.{IsPosed}

module _ (A : Arch) (K : Kernel) where
  -- ---- the intervals that may be tried

  pub asked_positive : (asked : Option ℕ) → IsAsked A asked → 1 ≤ first_asked asked
  asked_positive None is = omega arith
  asked_positive (Some n) is = let some = is.0 in omega (arith, some)

  pub asked_within : (asked : Option ℕ) → IsArch A → first_asked asked ≤ last_tried A asked
  asked_within None arch = let some = arch.small.contexts.0 in omega (arith, some)
  asked_within (Some n) arch = omega arith

  pub last_small : (asked : Option ℕ) → IsArch A → IsAsked A asked → last_tried A asked ≤ 64
  last_small None arch is = arch.small.contexts.1
  last_small (Some n) arch is = let most = is.1 in let few = arch.small.contexts.1 in omega (arith, most, few)

  -- the first interval of a call is 1 at least, and not after the last one
  pub posed_within : (asked : Option ℕ) (first : ℕ) → IsPosed A K asked first → (0 < first) × (first ≤ last_tried A asked)
  posed_within asked first p = (let some = asked_positive asked p.within in let from = p.begin.from in omega (arith, some, from), p.some)

  -- where one is asked for it is the only one
  pub only_asked : (asked : Option ℕ) (first ii : ℕ) → asked ≡ Some ii → IsPosed A K asked first → first ≡ last_tried A asked
  only_asked None first ii e p = absurd (cc)
  only_asked (Some n) first ii e p = let from = p.begin.from in let most = p.some in omega (arith, from, most)

  -- no recurrence forbids an interval from there on
  pub free_from : (asked : Option ℕ) (first ii : ℕ) → IsPosed A K asked first → first ≤ ii → HasNoRecurrence A K ii
  free_from asked first ii p l = free_above A K first ii l (λ ids c. p.begin.free p.some (kinds.Recurrence, (ids, c)))

  -- ---- what a reason says

  pub impossible_by : (f : HopTables) (ii : ℕ) (r : Reason) → Shows A K (hops_at f ii) ii r → IsImpossible A K f ii
  impossible_by f ii r h = (kind_of r, shown A K (hops_at f ii) ii r h)

  -- no mapping of an interval that a reason excludes is legal
  pub none_legal : (f : HopTables) (ii : ℕ) → IsKernel K → 1 ≤ ii → AreAllNumbers A K f → IsImpossible A K f ii → (M : Mapping) → M.ii ≡ ii → IsLegal A K M → ⊥
  none_legal f ii good some all (kind, h) M at legal =
      let hops = hops_at f ii in
      none_excludes A K M hops good legal (subst (λ z. AreHops A K z hops) (sym at) (numbers_for A K f ii some all).tables) kind (subst (λ z. IsExcluded A K hops z kind) (sym at) h)

  -- ---- what is found

  pub begins_at : (f : HopTables) (ii : ℕ) → AreAllNumbers A K f → (IsImpossible A K f ii → ⊥) → Begins A K (Some ii) (At ii)
  begins_at f ii all free = (record { tables = f; numbers = all; from = omega arith; within = omega arith; excluded = λ i from below. absurd (omega (arith, from, below)); free = λ l h. free h }, omega arith)

  pub nowhere_at : (f : HopTables) (ii : ℕ) (r : Reason) → AreAllNumbers A K f → Shows A K (hops_at f ii) ii r → Begins A K (Some ii) (Nowhere (record { interval = ii; tables = f; reason = r }))
  nowhere_at f ii r all h = (
    record {
      tables = f;
      numbers = all;
      from = omega arith;
      within = omega arith;
      excluded = λ i from below. (let same : ii ≡ i = omega (arith, from, below) in subst (IsImpossible A K f) same (impossible_by f ii r h));
      free = λ l. absurd (omega (arith, l));
    },
    record { interval = refl; numbers = all; shown = h },
  )

  pub begins_least : (f : HopTables) (l : ℕ) → AreAllNumbers A K f → IsLeastWithout (IsImpossible A K f) A.contexts (Some l) → Begins A K None (At l)
  begins_least f l all (some, most, free, below) = (record { tables = f; numbers = all; from = some; within = omega (arith, most); excluded = below; free = λ m h. free h }, most)

  pub nowhere_least : (f : HopTables) (r : Reason) (last : ℕ) → last ≡ A.contexts → AreAllNumbers A K f → ((ii : ℕ) → 1 ≤ ii → ii ≤ A.contexts → IsImpossible A K f ii) → Shows A K (hops_at f A.contexts) A.contexts r
      → Begins A K None (Nowhere (record { interval = last; tables = f; reason = r }))
  nowhere_least f r last same all each h = (
    record {
      tables = f;
      numbers = all;
      from = omega arith;
      within = omega arith;
      excluded = λ i from below. each i from (omega (arith, below));
      free = λ l. absurd (omega (arith, l));
    },
    record { interval = same; numbers = all; shown = h },
  )

-- ---- a reason excludes an interval, or none does

module _ (A : Arch) (K : Kernel) (arch : IsArch A) (kernel : IsKernel K) (f : HopTables) (all : AreAllNumbers A K f) (ii : ℕ) (some : 1 ≤ ii) (few : ii ≤ 64) where
  abbrev Finds : Kind → Option Reason → Type 0
  Finds kind o = IsFound A K (hops_at f ii) ii kind o

  abbrev HasExclusion : Type 0
  HasExclusion = (o : Option Reason) × IsExclusion A K f ii o

  found : (kind : Kind) → (o : Option Reason) × Finds kind o
  found kind = some_reason A K arch kernel (numbers_at f ii) ii (numbers_for A K f ii some all) few kind

  none_of : Finds kinds.Recurrence None → Finds kinds.Class None → Finds kinds.Ways None → Finds kinds.Registers None → IsImpossible A K f ii → ⊥
  none_of a b c d (kinds.Recurrence, h) = a h
  none_of a b c d (kinds.Class, h) = b h
  none_of a b c d (kinds.Ways, h) = c h
  none_of a b c d (kinds.Registers, h) = d h

  after_ways : Finds kinds.Recurrence None → Finds kinds.Class None → Finds kinds.Ways None → (o : Option Reason) → Finds kinds.Registers o → HasExclusion
  after_ways a b c (Some r) h = (Some r, h.0)
  after_ways a b c None d = (None, none_of a b c d)

  after_class : Finds kinds.Recurrence None → Finds kinds.Class None → (o : Option Reason) → Finds kinds.Ways o → HasExclusion
  after_class a b (Some r) h = (Some r, h.0)
  after_class a b None c = let (o, h) = found kinds.Registers in after_ways a b c o h

  after_recurrence : Finds kinds.Recurrence None → (o : Option Reason) → Finds kinds.Class o → HasExclusion
  after_recurrence a (Some r) h = (Some r, h.0)
  after_recurrence a None b = let (o, h) = found kinds.Ways in after_class a b o h

  by_recurrence : (o : Option Reason) → Finds kinds.Recurrence o → HasExclusion
  by_recurrence (Some r) h = (Some r, h.0)
  by_recurrence None a = let (o, h) = found kinds.Class in after_recurrence a o h

  pub some_exclusion_at : (o : Option Reason) × IsExclusion A K f ii o
  some_exclusion_at = let (o, h) = found kinds.Recurrence in by_recurrence o h

-- ---- there is an interval to begin at

module _ (A : Arch) (K : Kernel) (arch : IsArch A) (kernel : IsKernel K) (asked : Option ℕ) (is : IsAsked A asked) where
  module _ (f : HopTables) (all : AreAllNumbers A K f) where
    abbrev IsTold : ℕ → Type 0
    IsTold ii = IsImpossible A K f ii ⊎ (IsImpossible A K f ii → ⊥)

    told_by : (ii : ℕ) (o : Option Reason) → IsExclusion A K f ii o → IsTold ii
    told_by ii (Some r) h = inl (impossible_by A K f ii r h)
    told_by ii None h = inr h

    told : (ii : ℕ) → 1 ≤ ii → ii ≤ last_tried A asked → IsTold ii
    told ii some most = let few = last_small A K asked arch is in let (o, h) = some_exclusion_at A K arch kernel f all ii some (omega (arith, most, few)) in told_by ii o h

    -- no reason excludes an interval that may be tried
    abbrev MayBegin : ℕ → Type 0
    MayBegin ii = (first_asked asked ≤ ii) × (IsImpossible A K f ii → ⊥)

    begin_decided : (ii : ℕ) → ii < last_tried A asked + 1 → Decided (MayBegin ii)
    begin_decided ii within =
        let some = asked_positive A K asked is in
        ⊎_elim {C = Decided (MayBegin ii)} (λ before. inr (λ h. let from = h.0 in omega (arith, before, from)))
        (λ (from : first_asked asked ≤ ii).
        ⊎_elim {C = Decided (MayBegin ii)} (λ i. inr (λ h. h.1 i)) (λ free. inl (from, free))
        (told ii (omega (arith, some, from)) (omega (arith, within))))
        (cases_lt ii (first_asked asked))

    -- below an interval that isn't after the first one that is free each is excluded
    excluded_below : (first : ℕ) → first ≤ last_tried A asked + 1 → ((ii : ℕ) → ii < first → MayBegin ii → ⊥) → (ii : ℕ) → first_asked asked ≤ ii → ii < first → IsImpossible A K f ii
    excluded_below first within none ii from below =
        let some = asked_positive A K asked is in
        ⊎_elim {C = IsImpossible A K f ii} (λ i. i) (λ free. absurd (none ii below (from, free))) (told ii (omega (arith, some, from)) (omega (arith, below, within)))

    begin_by : (first : ℕ) × IsBegin A K asked first
    begin_by =
        ⊎_elim {C = (first : ℕ) × IsBegin A K asked first}
        (λ (first, is_first).
        let inside : first < last_tried A asked + 1 = is_first.within in (
          first,
          record {
            tables = f;
            numbers = all;
            from = is_first.holds.0;
            within = omega (arith, inside);
            excluded = excluded_below first (omega (arith, inside)) (λ ii below may. let least : first ≤ ii = is_first.least ii (omega (arith, below, inside)) may in omega (arith, least, below));
            free = λ l. is_first.holds.1;
          },
        ))
        (λ none. (
          last_tried A asked + 1,
          record {
            tables = f;
            numbers = all;
            from = let from = asked_within A K asked arch in omega (arith, from);
            within = omega arith;
            excluded = excluded_below (last_tried A asked + 1) (omega arith) none;
            free = λ l. absurd (omega (arith, l));
          },
        ))
        (first_below MayBegin (last_tried A asked + 1) begin_decided)

  pub some_begin : (first : ℕ) × IsBegin A K asked first
  some_begin = let (f, all) = some_hops A K arch kernel in begin_by f all

  -- where each interval is excluded there is a reason for the last one
  reason_of : (f : HopTables) → AreAllNumbers A K f → IsImpossible A K f (last_tried A asked) → (o : Option Reason) → IsExclusion A K f (last_tried A asked) o → (x : Exclusion) × ExcludesAt A K (last_tried A asked) x
  reason_of f all impossible (Some r) h = (record { interval = last_tried A asked; tables = f; reason = r }, record { interval = refl; numbers = all; shown = h })
  reason_of f all impossible None h = absurd (h impossible)

  pub some_exclusion : IsBegin A K asked (last_tried A asked + 1) → (x : Exclusion) × ExcludesAt A K (last_tried A asked) x
  some_exclusion begin =
      let some = asked_positive A K asked is in
      let inside = asked_within A K asked arch in
      let few = last_small A K asked arch is in
      let (o, h) = some_exclusion_at A K arch kernel begin.tables begin.numbers (last_tried A asked) (omega (arith, some, inside)) few in
      reason_of begin.tables begin.numbers (begin.excluded (last_tried A asked) inside (omega arith)) o h
