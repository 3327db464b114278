-- What `search` answers, and what its bytes do.
use Rattle.std.proofs.Common.{◌≡◌, false, List, [], arith, sym, ◌∙◌, ap, subst, ◌⊎◌, inl, inr, ⊎_elim}
use Rattle.cg_effects.specs.declared.outcome.Status.TheVariants.{Done, Impossible, BudgetSpent}
use Rattle.cg_effects.specs.Outcome.{Name, File, Outcome}
use Rattle.cg_effects.specs.Ends.{Moment, Completed}
use Rattle.cg_files.specs.Held.{Holds}
use Rattle.cg_intervals.specs.declared.answering.Answer.{Answer}
use Rattle.cg_intervals.specs.declared.answering.Answer.TheVariants as answer
use Rattle.cg_intervals.proofs.Answers.{IsCertified}
use Rattle.cg_intervals.proofs.Intervals.{last_positive}
use Rattle.cg_model.specs.Array.{IsArch}
use Rattle.cg_bound_all.specs.Why.{hops_at, Shows}
use Rattle.cg_search.specs.declared.answering.Failure.{Failure}
use Rattle.cg_search.specs.declared.answering.Failure.TheVariants.{Excluded, Missed}
use Rattle.cg_search.specs.Search.{AreMissedFrom}
use Rattle.cg_search.proofs.Answers.{by_hub, certified_alike, some_search}
use Rattle.cg_model.specs.declared.request.Request.{Request}
use Rattle.cg_model.specs.Request.{IsInRange}
use Rattle.cg_inputs.specs.Sources.{Pair}
use Rattle.cg_inputs.proofs.Sound.{IsSound, searching, IsNamed}
use Rattle.cg_command_map.specs.Searches.{IsForbiddenInput, IsImpossibleRun, is_above}
use Rattle.cg_command_map.specs.Runs.{FirstRuns}
use Rattle.cg_command_map.specs.Answered.{IsOutcomeOf}
use Rattle.cg_command_map.proofs.Over.{asked, agree_over}
use Rattle.cg_command_map.proofs.Searched as searched
use Rattle.cg_command_map.proofs.Searched.{IsSearcher}
use Rattle.cg_command_map.specs.Search.{word, failure_text, IsReportable, IsAnswerOf, IsSearch, IsSearched, IsSearchable, IsFoundWithin, IsSearchRun, IsFailed, IsSearchSpentRun, IsEither, AreAgreed}

-- what is left can be reported
pub reportable : (s : Request) (p : Pair) (failure : Failure) → IsArch p.arch → IsInRange s → is_above s.ii p.arch ≡ false → IsAnswerOf s p (answer.Unmapped failure) → IsReportable p failure
reportable s p (Excluded x) arch range within found =
    let is = found.tried.1 in
    subst (λ ii. Shows p.arch p.kernel (hops_at x.tables ii) ii x.reason) (sym is.interval) is.shown
reportable s p (Missed first misses) arch range within found =
    let (some, most) = last_positive p.arch p.kernel s.ii arch (asked s p.arch range within) in
    let few = arch.small.contexts.1 in
    let same = found.tried.0 in
    let all = found.tried.1.all in
    (subst (λ z. AreMissedFrom p.arch p.kernel z misses.items) (sym same) found.tried.1.each, omega (arith, most, few, same, all))

pub searcher : IsSearcher IsAnswerOf IsFoundWithin IsFailed
searcher = record {
  shown = λ s p c found. found;
  free = λ s p m found_by found. found.free;
  legal = λ s p m found_by valid good is found. (found.tried.arch, found.tried.kernel, found.tried.legal);
  found = λ s p m found_by valid good found. record { first = found.first; is_first = found.is_first; found = found.tried };
  open_left = λ s p failure found. found.free;
  left = λ s p failure found. (found.first, found.is_first, found.tried);
  by_hub = λ s p valid good is enough a found. by_hub p.arch p.kernel valid good s.ii s.moves is enough a found;
  some = λ s p valid good is. some_search p.arch p.kernel valid good s.ii s.moves is;
}

pub sound_search : (s : Request) (outs : List Name) (arch kernel : File) (o : Outcome) → IsSearch s arch kernel outs o → IsSound searching o
sound_search s outs arch kernel o e = searched.sound word failure_text IsAnswerOf s outs arch kernel o e

pub named_search : (s : Request) (outs : List Name) (arch kernel : File) (o : Outcome) → IsSearch s arch kernel outs o → IsNamed outs o
named_search s outs arch kernel o e = searched.named word failure_text IsAnswerOf s outs arch kernel o e

-- without output files nothing is written
pub quiet_search : (s : Request) (arch kernel : File) (o : Outcome) → IsSearch s arch kernel [] o → o.writes ≡ []
quiet_search s arch kernel o e = searched.quiet word failure_text IsAnswerOf s arch kernel o e

-- ---- how two outcomes agree

module _ (s : Request) (outs : List Name) (p : Pair) where
  -- the status of an answer
  kind : (a : Answer Failure) (x : Outcome) → IsOutcomeOf word failure_text s outs p a x → (IsCertified a × (x.status ≡ Impossible)) ⊎ ((IsCertified a → ⊥) × IsEither x.status)
  kind (answer.Impossible c) x e = inl (tt, ap (λ z. z.status) e)
  kind (answer.Mapped m found_by) x e = inr (λ c. c, inl (ap (λ z. z.status) e.outcome))
  kind (answer.Unmapped failure) x e = inr (λ c. c, inr (ap (λ z. z.status) e))

  agreed : (x y : Outcome) → IsSearched s outs p x → IsSearched s outs p y → AreAgreed x.status y.status
  agreed x y f g =
      let same = certified_alike p.arch p.kernel s.ii s.moves in
      ⊎_elim
      (λ a. ⊎_elim
      (λ b. inl (a.1 ∙ sym b.1))
      (λ b. absurd (b.0 (same f.answer g.answer f.is_answer g.is_answer a.0)))
      (kind g.answer y g.outcome))
      (λ a. ⊎_elim
      (λ b. absurd (a.0 (same g.answer f.answer g.is_answer f.is_answer b.0)))
      (λ b. inr (a.1, b.1))
      (kind g.answer y g.outcome))
      (kind f.answer x f.outcome)

pub agree_search : (s : Request) (arch kernel : File) (outs : List Name) (x y : Outcome) → IsSearch s arch kernel outs x → IsSearch s arch kernel outs y → AreAgreed x.status y.status
agree_search s arch kernel outs x y f g =
    agree_over (IsSearched s outs) s arch kernel AreAgreed (λ a b e. inl e) (λ p valid good range within x y f g. agreed s outs p x y f g) f.range x y f g

-- ---- what is accepted, and what there is

pub accepted_search : (s : Request) (arch kernel : File) (outs : List Name) (o : Outcome) → IsSearchable s arch kernel → IsSearch s arch kernel outs o → o.status ≡ Done
accepted_search s arch kernel outs o a f =
    searched.accepted word failure_text IsAnswerOf IsFoundWithin IsFailed searcher s arch kernel outs a.pair a.given a.within
    (λ valid good is b found. by_hub a.pair.arch a.pair.kernel valid good s.ii s.moves is a.enough b found)
    o f

-- an interval that is forbidden is called impossible
pub forbidden_search : (s : Request) (arch kernel : File) (outs : List Name) (o : Outcome) → IsForbiddenInput s arch kernel → IsSearch s arch kernel outs o → searched.SaysImpossible o
forbidden_search s arch kernel outs o a f = searched.forbidden word failure_text IsAnswerOf IsFoundWithin IsFailed searcher s arch kernel outs a o f

pub some_search_outcome : (s : Request) (arch kernel : File) (outs : List Name) → IsInRange s → (o : Outcome) × IsSearch s arch kernel outs o
some_search_outcome s arch kernel outs range = searched.some_outcome word failure_text IsAnswerOf IsFoundWithin IsFailed searcher s arch kernel outs range

-- ---- what is left

module _ (s : Request) (arch kernel : Name) (outs : List Name) (f g : File) (before after : Moment) (arch_held : Holds before.held arch f.bytes) (kernel_held : Holds before.held kernel g.bytes) where
  pub search_writes_run : (o : Outcome) → IsSearch s f g outs o → FirstRuns arch kernel before o.writes
  search_writes_run o is = searched.writes_run word failure_text IsAnswerOf IsFoundWithin IsFailed searcher s arch kernel outs f g before after arch_held kernel_held o is

  pub search_left : (o : Outcome) → IsSearch s f g outs o → o.status ≡ Done → Completed o before after Done → IsSearchRun s arch kernel outs before after
  search_left o is at done = searched.found_left word failure_text IsAnswerOf IsFoundWithin IsFailed searcher s arch kernel outs f g before after arch_held kernel_held o is at done

  pub search_impossible_left : (o : Outcome) → IsSearch s f g outs o → o.status ≡ Impossible → Completed o before after Impossible → IsImpossibleRun s arch kernel before after
  search_impossible_left o is at done = searched.impossible_left word failure_text IsAnswerOf IsFoundWithin IsFailed searcher s arch kernel outs f g before after arch_held kernel_held o is at done

  pub search_spent_left : (o : Outcome) → IsSearch s f g outs o → o.status ≡ BudgetSpent → Completed o before after BudgetSpent → IsSearchSpentRun s arch kernel before after
  search_spent_left o is at done = searched.spent_left word failure_text IsAnswerOf IsFoundWithin IsFailed searcher s arch kernel outs f g before after arch_held kernel_held o is at done
