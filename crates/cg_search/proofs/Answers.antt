-- The kinds of answers are as words and files have it, but for whether a mapping is found; and there always is one.
use Rattle.std.proofs.Common.{◌≡◌, ℕ, ◌+◌, ◌-◌, ◌<◌, ◌≤◌, Option, refl, sym, subst, arith, inl, inr, ⊎_elim}
use Rattle.std.proofs.lemmas.Bool.{cases_lt}
use Rattle.cg_model.specs.Kernel.{Kernel, IsKernel, size}
use Rattle.cg_model.specs.Array.{Arch, IsArch}
use Rattle.cg_bound.specs.declared.interval.Certificate.{Certificate}
use Rattle.cg_bound.specs.declared.interval.IntervalVerdict.{IntervalVerdict}
use Rattle.cg_bound.specs.declared.interval.IntervalVerdict.TheVariants as verdict
use Rattle.cg_bound.specs.Bound.{IsOpen, IsVerdict, Shows}
use Rattle.cg_bound.proofs.Legal.{excluded}
use Rattle.cg_bound.proofs.Always.{some_verdict}
use Rattle.cg_hub.specs.Hub.{HubEnough, hub_map}
use Rattle.cg_hub.proofs.Legal.{hub_legal}
use Rattle.cg_distance.proofs.Searches.{Decided, IsFirst as IsFirstOf, first_below, both_decided}
use Rattle.cg_hub.proofs.Hubs.{hub_interval, enough_or_not}
use Rattle.cg_intervals.specs.Intervals.{IsAsked, last_tried}
use Rattle.cg_intervals.specs.Answers.{IsMapping}
use Rattle.cg_intervals.proofs.Answers.{held, IsCertified}
use Rattle.cg_intervals.proofs.Intervals.{not_both, shown_forbids, last_positive}
use Rattle.cg_intervals.specs.declared.answering.FoundBy.TheVariants.{Hub, Moves}
use Rattle.cg_intervals.specs.declared.answering.Answer.{Answer}
use Rattle.cg_intervals.specs.declared.answering.Answer.TheVariants.{Impossible, Mapped, Unmapped}
use Rattle.cg_search.specs.declared.answering.Failure.{Failure}
use Rattle.cg_search.specs.declared.answering.Failure.TheVariants.{Excluded, Missed}
use Rattle.cg_search.specs.Begin.{first_asked, IsBegin}
use Rattle.cg_search.specs.Search.{HasNoHub, IsFound, IsTried, IsBegun, IsAnswer}
use Rattle.cg_search.proofs.Begins.{asked_positive, asked_within, none_legal, some_begin, some_exclusion}
use Rattle.cg_search.proofs.Displaced.{empty, empty_legal, some_misses}

module _ (A : Arch) (K : Kernel) (asked : Option ℕ) (moves : ℕ) where
  -- what comes of the intervals from the first one on is an answer
  pub answered : (first : ℕ) (a : Answer Failure) → IsOpen A K (last_tried A asked) → IsBegin A K asked first → IsTried A K asked moves first a → IsAnswer A K asked moves a
  answered first (Impossible c) free begin tried = absurd tried
  answered first (Mapped m found_by) free begin tried = record { free = free; first = first; is_first = begin; tried = tried }
  answered first (Unmapped failure) free begin tried = record { free = free; first = first; is_first = begin; tried = tried }

  -- an interval that is searched isn't impossible
  not_impossible : (a : Answer Failure) → IsBegun A K asked moves a → (c : Certificate) → Shows A K (last_tried A asked) c → ⊥
  not_impossible a p c q = not_both A K (last_tried A asked) p.free (shown_forbids A K (last_tried A asked) c q)

  -- either all answers say that the last interval is impossible, or none does
  pub certified_alike : (a b : Answer Failure) → IsAnswer A K asked moves a → IsAnswer A K asked moves b → IsCertified a → IsCertified b
  certified_alike (Impossible c) (Impossible d) p q is = tt
  certified_alike (Impossible c) (Mapped m found_by) p q is = absurd (not_impossible (Mapped m found_by) q c p)
  certified_alike (Impossible c) (Unmapped failure) p q is = absurd (not_impossible (Unmapped failure) q c p)
  certified_alike (Mapped m found_by) b p q is = absurd is
  certified_alike (Unmapped failure) b p q is = absurd is

module _ (A : Arch) (K : Kernel) (arch : IsArch A) (kernel : IsKernel K) (asked : Option ℕ) (moves : ℕ) where
  module _ (is : IsAsked A asked) where
    -- the hub suffices at no interval that a reason excludes
    no_hub_excluded : (first ii : ℕ) → IsBegin A K asked first → first_asked asked ≤ ii → ii < first → HubEnough A K ii → ⊥
    no_hub_excluded first ii begin from below enough =
        let some = asked_positive A K asked is in
        none_legal A K begin.tables ii kernel (omega (arith, some, from)) begin.numbers (begin.excluded ii from below) (hub_map A K ii) (hub_interval A K ii) (hub_legal A K ii arch kernel enough)

    -- where the hub suffices at the last interval a mapping is answered
    pub by_hub : HubEnough A K (last_tried A asked) → (a : Answer Failure) → IsAnswer A K asked moves a → IsMapping a
    by_hub enough (Mapped m found_by) p = tt
    by_hub enough (Impossible c) p =
        let ii = last_tried A asked in
        excluded A K ii kernel (shown_forbids A K ii c p) (hub_map A K ii) (hub_interval A K ii) (hub_legal A K ii arch kernel enough)
    by_hub enough (Unmapped (Excluded x)) p =
        let same = p.tried.0 in
        no_hub_excluded p.first (last_tried A asked) p.is_first (asked_within A K asked arch) (omega (arith, same)) enough
    by_hub enough (Unmapped (Missed f misses)) p = p.tried.1.no_hub (last_tried A asked) p.tried.1.some (omega arith) enough

    -- ---- there is an answer

    -- from the first interval on the hub suffices at this one
    abbrev Enough : ℕ → ℕ → Type 0
    Enough first ii = (first ≤ ii) × HubEnough A K ii

    enough_decided : (first ii : ℕ) → Decided (Enough first ii)
    enough_decided first ii = both_decided (first ≤ ii) (HubEnough A K ii)
        (⊎_elim (λ l. inr (λ h. omega (arith, l, h))) (λ h. inl h) (cases_lt ii first)) (enough_or_not A K ii)

    found_over_hub : (first ii : ℕ) → IsFirstOf (Enough first) (last_tried A asked + 1) ii → IsFound A K asked moves first (record { arch = A; kernel = K; mapping = hub_map A K ii }) Hub
    found_over_hub first ii f =
        let same = sym (hub_interval A K ii) in
        let within : ii < last_tried A asked + 1 = f.within in
        let before : HasNoHub A K asked moves first ii = λ j from less enough. (let most : ii ≤ j = f.least j (omega (arith, less, within)) (from, enough) in omega (arith, less, most)) in
        record {
          arch = refl;
          kernel = refl;
          legal = hub_legal A K ii arch kernel f.holds.1;
          from = subst (λ z. first ≤ z) same f.holds.0;
          to = subst (λ z. z ≤ last_tried A asked) same (omega (arith, within));
          by = (subst (HubEnough A K) same f.holds.1, subst (HasNoHub A K asked moves first) same before, subst (λ z. hub_map A K ii ≡ hub_map A K z) same refl);
        }

    -- an answer
    abbrev HasAnswer : Type 0
    HasAnswer = (a : Answer Failure) × IsAnswer A K asked moves a

    found_empty : size K ≤ 0 → (first : ℕ) → 0 < first → first ≤ last_tried A asked → IsFound A K asked moves first (record { arch = A; kernel = K; mapping = empty first }) (Moves 0)
    found_empty none first positive within =
        let (some, most) = last_positive A K asked arch is in
        record {
          arch = refl;
          kernel = refl;
          legal = empty_legal A K kernel none first positive (omega (arith, within, most));
          from = omega arith;
          to = within;
          by = omega arith;
        }

    module _ (free : IsOpen A K (last_tried A asked)) (first : ℕ) (begin : IsBegin A K asked first) where
      -- each interval is excluded
      by_exclusion : last_tried A asked < first → HasAnswer
      by_exclusion after =
          let within = begin.within in
          let same : first ≡ last_tried A asked + 1 = omega (arith, after, within) in
          let (x, excludes) = some_exclusion A K arch kernel asked is (subst (IsBegin A K asked) same begin) in
          (Unmapped (Excluded x), record { free = free; first = first; is_first = begin; tried = (same, excludes) })

      -- at no interval a mapping is found
      by_misses : 0 < size K → first ≤ last_tried A asked → HasNoHub A K asked moves first (last_tried A asked + 1) → HasAnswer
      by_misses nodes within none =
          let n = last_tried A asked + 1 - first in
          let (misses, are, long) = some_misses A K nodes first n in
          let (some, most) = last_positive A K asked arch is in
          let few = arch.small.contexts.1 in (
            Unmapped (Missed first (held misses (omega (arith, long, most, few)))),
            record { free = free; first = first; is_first = begin; tried = (refl, record { some = within; each = are; all = omega (arith, long, within); no_hub = none }) },
          )

      -- a kernel without nodes has a mapping
      by_empty : size K ≤ 0 → first ≤ last_tried A asked → HasAnswer
      by_empty none within =
          let low = asked_positive A K asked is in
          let from = begin.from in (
            Mapped (record { arch = A; kernel = K; mapping = empty first }) (Moves 0),
            record { free = free; first = first; is_first = begin; tried = found_empty none first (omega (arith, low, from)) within },
          )

      some_tried : HasAnswer
      some_tried =
          ⊎_elim {C = HasAnswer}
          (λ (ii, f). (Mapped (record { arch = A; kernel = K; mapping = hub_map A K ii }) Hub, record { free = free; first = first; is_first = begin; tried = found_over_hub first ii f }))
          (λ none.
          ⊎_elim {C = HasAnswer} (λ after. by_exclusion after)
          (λ within.
          ⊎_elim {C = HasAnswer} (λ nodes. by_misses nodes within (λ j from less enough. none j less (from, enough))) (λ no_nodes. by_empty no_nodes within)
          (cases_lt 0 (size K)))
          (cases_lt (last_tried A asked) first))
          (first_below (Enough first) (last_tried A asked + 1) (λ ii l. enough_decided first ii))

    by_verdict : (v : IntervalVerdict) → IsVerdict A K (last_tried A asked) v → HasAnswer
    by_verdict (verdict.Impossible c) shown = (Impossible c, shown)
    by_verdict verdict.Allowed free = let (first, begin) = some_begin A K arch kernel asked is in some_tried free first begin

    pub some_search : (a : Answer Failure) × IsAnswer A K asked moves a
    some_search = let (v, is_verdict) = some_verdict A K (last_tried A asked) arch kernel in by_verdict v is_verdict
