-- What `map` answers, and what its bytes do.
use Rattle.std.proofs.Common.{◌≡◌, ◌+◌, ◌<◌, List, [], length, sym, ◌∙◌, ap, subst, ⊎_elim, arith}
use Rattle.std.specs.Prelude.{◌^◌, false}
use Rattle.cg_model.specs.Array.{IsArch}
use Rattle.cg_model.specs.Kernel.{IsKernel}
use Rattle.cg_effects.specs.declared.outcome.Status.TheVariants.{Done, Impossible, BudgetSpent}
use Rattle.cg_effects.specs.Outcome.{Name, File, Outcome}
use Rattle.cg_effects.specs.Ends.{Moment, Completed}
use Rattle.cg_files.specs.Held.{Holds}
use Rattle.cg_check.specs.Legal.{Mapped}
use Rattle.cg_intervals.specs.declared.answering.FoundBy.{FoundBy}
use Rattle.cg_intervals.specs.declared.answering.Answer.{Answer}
use Rattle.cg_intervals.specs.declared.answering.Answer.TheVariants as answer
use Rattle.cg_intervals.specs.Answers.{IsMapping}
use Rattle.cg_intervals.specs.Intervals.{IsFirst}
use Rattle.cg_intervals.proofs.Intervals.{last_positive}
use Rattle.cg_map.specs.declared.answering.Costs.{Costs}
use Rattle.cg_map.specs.Tried.{AreAllLeft}
use Rattle.cg_map.specs.Laws.{AreAlike}
use Rattle.cg_map.proofs.Alike.{alike, legal, by_hub}
use Rattle.cg_map.proofs.Always.{some_answer}
use Rattle.cg_model.specs.declared.request.Request.{Request}
use Rattle.cg_model.specs.Request.{IsInRange}
use Rattle.cg_inputs.specs.Sources.{Pair}
use Rattle.cg_inputs.proofs.Sound.{IsSound, searching, IsNamed}
use Rattle.cg_command_map.specs.Searches.{IsForbiddenInput, IsImpossibleRun, is_above}
use Rattle.cg_command_map.specs.Runs.{FirstRuns}
use Rattle.cg_command_map.specs.Answered.{IsOutcomeOf}
use Rattle.cg_command_map.proofs.Over.{asked, agree_over}
use Rattle.cg_command_map.proofs.Searched as searched
use Rattle.cg_command_map.proofs.Searched.{IsSearcher}
use Rattle.cg_command_map.specs.Map.{word, cost_text, IsAnswerOf, IsMap, IsWalk, IsMappable, IsOnlyMapping, IsMapRun, AreCosts, IsSpentRun}

-- few costs are left
pub costs_few : (s : Request) (p : Pair) (c : Costs) → IsArch p.arch → IsInRange s → is_above s.ii p.arch ≡ false → IsAnswerOf s p (answer.Unmapped c) → c.first + length c.costs.items < 2 ^ 32
costs_few s p c arch range within found =
    let (some, most) = last_positive p.arch p.kernel s.ii arch (asked s p.arch range within) in
    let few = arch.small.contexts.1 in
    let same = found.tried.0 in
    let all = found.tried.1.all in
    omega (arith, most, few, same, all)

pub searcher : IsSearcher IsAnswerOf IsOnlyMapping AreCosts
searcher = record {
  shown = λ s p c found. found;
  free = λ s p m found_by found. found.free;
  legal = λ s p m found_by valid good is found. legal p.arch p.kernel valid good s.ii s.seed s.moves is m found_by found;
  found = λ s p m found_by valid good found. record {
    found = found;
    only = λ other by is_other. alike p.arch p.kernel valid good s.ii s.seed s.moves (answer.Mapped other by) (answer.Mapped m found_by) is_other found;
  };
  open_left = λ s p c found. found.free;
  left = λ s p c found. (
    subst (IsFirst p.arch p.kernel s.ii) (sym found.tried.0) found.is_first,
    subst (λ z. AreAllLeft p.arch p.kernel s.ii s.seed s.moves z c.costs.items) (sym found.tried.0) found.tried.1,
  );
  by_hub = λ s p valid good is enough a found. by_hub p.arch p.kernel valid good s.ii s.seed s.moves is enough a found;
  some = λ s p valid good is. some_answer p.arch p.kernel valid good s.ii s.seed s.moves is;
}

pub sound_map : (s : Request) (outs : List Name) (arch kernel : File) (o : Outcome) → IsMap s arch kernel outs o → IsSound searching o
sound_map s outs arch kernel o e = searched.sound word cost_text IsAnswerOf s outs arch kernel o e

pub named_map : (s : Request) (outs : List Name) (arch kernel : File) (o : Outcome) → IsMap s arch kernel outs o → IsNamed outs o
named_map s outs arch kernel o e = searched.named word cost_text IsAnswerOf s outs arch kernel o e

-- without output files nothing is written
pub quiet_map : (s : Request) (arch kernel : File) (o : Outcome) → IsMap s arch kernel [] o → o.writes ≡ []
quiet_map s arch kernel o e = searched.quiet word cost_text IsAnswerOf s arch kernel o e

-- ---- one status

module _ (s : Request) (outs : List Name) (p : Pair) where
  same_kind : (a b : Answer Costs) (x y : Outcome) → AreAlike a b → IsOutcomeOf word cost_text s outs p a x → IsOutcomeOf word cost_text s outs p b y → x.status ≡ y.status
  same_kind (answer.Impossible c) (answer.Impossible d) x y e f g = ap (λ z. z.status) f ∙ sym (ap (λ z. z.status) g)
  same_kind (answer.Mapped m found_by) (answer.Mapped n by) x y e f g = ap (λ z. z.status) f.outcome ∙ sym (ap (λ z. z.status) g.outcome)
  same_kind (answer.Unmapped c) (answer.Unmapped d) x y e f g = ap (λ z. z.status) f ∙ sym (ap (λ z. z.status) g)
  same_kind (answer.Impossible c) (answer.Mapped n by) x y e f g = absurd e
  same_kind (answer.Impossible c) (answer.Unmapped d) x y e f g = absurd e
  same_kind (answer.Mapped m found_by) (answer.Impossible d) x y e f g = absurd e
  same_kind (answer.Mapped m found_by) (answer.Unmapped d) x y e f g = absurd e
  same_kind (answer.Unmapped c) (answer.Impossible d) x y e f g = absurd e
  same_kind (answer.Unmapped c) (answer.Mapped n by) x y e f g = absurd e

  same_search : IsArch p.arch → IsKernel p.kernel → (x y : Outcome) → IsWalk s outs p x → IsWalk s outs p y → x.status ≡ y.status
  same_search valid good x y f g =
      same_kind f.answer g.answer x y (alike p.arch p.kernel valid good s.ii s.seed s.moves f.answer g.answer f.is_answer g.is_answer) f.outcome g.outcome

pub same_map : (s : Request) (arch kernel : File) (outs : List Name) (x y : Outcome) → IsMap s arch kernel outs x → IsMap s arch kernel outs y → x.status ≡ y.status
same_map s arch kernel outs x y f g =
    agree_over (IsWalk s outs) s arch kernel (λ a b. a ≡ b) (λ a b e. e) (λ p valid good range within x y f g. same_search s outs p valid good x y f g) f.range x y f g

-- ---- what is accepted, and what there is

alike_mapping : (m : Mapped) (found_by : FoundBy) (a : Answer Costs) → AreAlike (answer.Mapped m found_by) a → IsMapping a
alike_mapping m found_by (answer.Mapped n by) e = tt
alike_mapping m found_by (answer.Impossible c) e = absurd e
alike_mapping m found_by (answer.Unmapped c) e = absurd e

pub accepted_map : (s : Request) (arch kernel : File) (outs : List Name) (o : Outcome) → IsMappable s arch kernel → IsMap s arch kernel outs o → o.status ≡ Done
accepted_map s arch kernel outs o a f =
    let p = a.pair in
    searched.accepted word cost_text IsAnswerOf IsOnlyMapping AreCosts searcher s arch kernel outs p a.given a.within
    (λ valid good is b found.
    ⊎_elim
    (λ enough. by_hub p.arch p.kernel valid good s.ii s.seed s.moves is enough b found)
    (λ (m, found_by, mapped). alike_mapping m found_by b (alike p.arch p.kernel valid good s.ii s.seed s.moves (answer.Mapped m found_by) b mapped found))
    a.mappable)
    o f

-- an interval that is forbidden is called impossible
pub forbidden_map : (s : Request) (arch kernel : File) (outs : List Name) (o : Outcome) → IsForbiddenInput s arch kernel → IsMap s arch kernel outs o → searched.SaysImpossible o
forbidden_map s arch kernel outs o a f = searched.forbidden word cost_text IsAnswerOf IsOnlyMapping AreCosts searcher s arch kernel outs a o f

pub some_map : (s : Request) (arch kernel : File) (outs : List Name) → IsInRange s → (o : Outcome) × IsMap s arch kernel outs o
some_map s arch kernel outs range = searched.some_outcome word cost_text IsAnswerOf IsOnlyMapping AreCosts searcher s arch kernel outs range

-- ---- what is left

module _ (s : Request) (arch kernel : Name) (outs : List Name) (f g : File) (before after : Moment) (arch_held : Holds before.held arch f.bytes) (kernel_held : Holds before.held kernel g.bytes) where
  pub map_writes_run : (o : Outcome) → IsMap s f g outs o → FirstRuns arch kernel before o.writes
  map_writes_run o is = searched.writes_run word cost_text IsAnswerOf IsOnlyMapping AreCosts searcher s arch kernel outs f g before after arch_held kernel_held o is

  pub map_left : (o : Outcome) → IsMap s f g outs o → o.status ≡ Done → Completed o before after Done → IsMapRun s arch kernel outs before after
  map_left o is at done = searched.found_left word cost_text IsAnswerOf IsOnlyMapping AreCosts searcher s arch kernel outs f g before after arch_held kernel_held o is at done

  pub impossible_left : (o : Outcome) → IsMap s f g outs o → o.status ≡ Impossible → Completed o before after Impossible → IsImpossibleRun s arch kernel before after
  impossible_left o is at done = searched.impossible_left word cost_text IsAnswerOf IsOnlyMapping AreCosts searcher s arch kernel outs f g before after arch_held kernel_held o is at done

  pub spent_left : (o : Outcome) → IsMap s f g outs o → o.status ≡ BudgetSpent → Completed o before after BudgetSpent → IsSpentRun s arch kernel before after
  spent_left o is at done = searched.spent_left word cost_text IsAnswerOf IsOnlyMapping AreCosts searcher s arch kernel outs f g before after arch_held kernel_held o is at done
