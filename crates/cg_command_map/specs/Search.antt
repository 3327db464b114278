-- `search ARCH KERNEL OUT [--ii N] [--seed N] [--moves N] [--mapping FILE]`.
use Rattle.std.specs.Prelude.{◌≡◌, ◌⊎◌, ℕ, ◌+◌, ◌<◌, ◌^◌, false, List, [], ◌∷◌, ◌++◌, length, codes}
use Rattle.cg_effects.specs.declared.outcome.Status.{Status}
use Rattle.cg_effects.specs.declared.outcome.Status.TheVariants as status
use Rattle.cg_effects.specs.Outcome.{Name, Bytes, File, Outcome}
use Rattle.cg_effects.specs.Ends.{Moment}
use Rattle.cg_check.specs.Legal.{Mapped}
use Rattle.cg_violations.specs.Faults.{fault_lines}
use Rattle.cg_hub.specs.Hub.{HubEnough}
use Rattle.cg_intervals.specs.declared.answering.FoundBy.{FoundBy}
use Rattle.cg_intervals.specs.declared.answering.Answer.{Answer}
use Rattle.cg_intervals.specs.Intervals.{last_tried}
use Rattle.cg_bound_text.specs.Text.{excluded_line}
use Rattle.cg_bound_all.specs.Why.{hops_at, Shows}
use Rattle.cg_search.specs.declared.misses.Miss.{Miss}
use Rattle.cg_search.specs.declared.answering.Failure.{Failure}
use Rattle.cg_search.specs.declared.answering.Failure.TheVariants.{Excluded, Missed}
use Rattle.cg_search.specs.Begin.{IsBegin}
use Rattle.cg_search.specs.Search.{IsFound, IsFailure, AreMissedFrom, IsAnswer}
use Rattle.cg_model.specs.declared.request.Request.{Request}
use Rattle.cg_inputs.specs.Sources.{Pair, GivesPair}
use Rattle.cg_command_map.specs.Searches.{IsSearchOver, is_above}
use Rattle.cg_command_map.specs.Answered.{IsAnswered, left_line}
use Rattle.cg_command_map.specs.Runs.{IsFoundRun, IsLeftRun}

-- the word for how `search` finds mappings: by the search
abbrev pub word : Bytes
word = codes "search"

-- ---- the report of faults, or of what excludes all intervals

-- the maximum number of lines that report the faults of a mapping
abbrev pub most_lines : ℕ
most_lines = 8

-- the number of faults that are left at an interval, and the faults of the mapping in which this number was reached
abbrev pub interval_report : Pair → ℕ → Miss → Bytes
interval_report p ii miss = left_line (codes "faults") ii miss.faults ++ fault_lines p.arch p.kernel miss.mapping most_lines

-- the report of each interval, from the interval ii on
abbrev pub faults_report : Pair → ℕ → List Miss → Bytes
faults_report p ii [] = []
faults_report p ii (miss ∷ misses) = interval_report p ii miss ++ faults_report p (ii + 1) misses

-- the report of what excludes the last interval, or of what is left at each interval
abbrev pub failure_text : Pair → Failure → Bytes
failure_text p (Excluded x) = excluded_line p.arch p.kernel x.tables x.interval x.reason
failure_text p (Missed first misses) = faults_report p first misses.items

-- it can be reported: the reason shows what it excludes; the mappings are of the kernel's shape, at intervals that are
-- numbers of the program
abbrev pub IsReportable : Pair → Failure → Type 0
IsReportable p (Excluded x) = Shows p.arch p.kernel (hops_at x.tables x.interval) x.interval x.reason
IsReportable p (Missed first misses) = AreMissedFrom p.arch p.kernel first misses.items × (first + length misses.items < 2 ^ 32)

-- ---- outcomes

-- an answer of the search for a pair
abbrev pub IsAnswerOf : Request → Pair → Answer Failure → Type 0
IsAnswerOf s p a = IsAnswer p.arch p.kernel s.ii s.moves a

-- the search has an answer; which mapping it finds, and whether it finds one, is left open
abbrev pub IsSearched : Request → List Name → Pair → Outcome → Type 0
IsSearched s outs p o = IsAnswered word failure_text s outs p (IsAnswerOf s p) o

-- given the contents of the files
abbrev pub IsSearch : Request → File → File → List Name → Outcome → Type 0
IsSearch s arch kernel outs o = IsSearchOver (IsSearched s outs) s arch kernel o

-- ---- how the statuses of two outcomes agree

-- the search found a mapping, or its budget is spent
abbrev pub IsEither : Status → Type 0
IsEither s = (s ≡ status.Done) ⊎ (s ≡ status.BudgetSpent)

-- the statuses are equal, or each is one of the two that the search may end with
abbrev pub AreAgreed : Status → Status → Type 0
AreAgreed a b = (a ≡ b) ⊎ (IsEither a × IsEither b)

-- ---- what is accepted, and what is left

-- the files contain an architecture and a kernel, and the hub suffices at the last interval that is tried
pub record IsSearchable (s : Request) (arch kernel : File) : Type 0 where
  pub pair : Pair
  pub given : GivesPair arch.bytes kernel.bytes pair
  pub within : is_above s.ii pair.arch ≡ false
  pub enough : HubEnough pair.arch pair.kernel (last_tried pair.arch s.ii)

-- the mapping was found at an interval that is tried, from the first one on that no reason excludes
pub record IsFoundWithin (s : Request) (p : Pair) (m : Mapped) (found_by : FoundBy) : Type 0 where
  pub first : ℕ
  pub is_first : IsBegin p.arch p.kernel s.ii first
  pub found : IsFound p.arch p.kernel s.ii s.moves first m found_by

-- Done: a mapping that is found within these intervals is written
abbrev pub IsSearchRun : Request → Name → Name → List Name → Moment → Moment → Type 0
IsSearchRun s arch kernel outs before after = IsFoundRun word (IsFoundWithin s) s arch kernel outs before after

-- no mapping is found at the intervals from the first one on that no reason excludes, or each interval is excluded
abbrev pub IsFailed : Request → Pair → Failure → Type 0
IsFailed s p failure =
    (first : ℕ) × IsBegin p.arch p.kernel s.ii first × IsFailure p.arch p.kernel s.ii s.moves first failure

-- BudgetSpent: the faults that are left are reported, or what excludes the last interval
abbrev pub IsSearchSpentRun : Request → Name → Name → Moment → Moment → Type 0
IsSearchSpentRun s arch kernel before after = IsLeftRun failure_text (IsFailed s) s arch kernel before after
