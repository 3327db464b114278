-- `map ARCH KERNEL OUT [--ii N] [--seed N] [--moves N] [--mapping FILE]`.
use Rattle.std.specs.Prelude.{◌≡◌, ◌⊎◌, false, List, codes}
use Rattle.cg_effects.specs.Outcome.{Name, Bytes, File, Outcome}
use Rattle.cg_effects.specs.Ends.{Moment}
use Rattle.cg_check.specs.Legal.{Mapped}
use Rattle.cg_hub.specs.Hub.{HubEnough}
use Rattle.cg_intervals.specs.declared.answering.FoundBy.{FoundBy}
use Rattle.cg_intervals.specs.declared.answering.Answer.{Answer}
use Rattle.cg_intervals.specs.declared.answering.Answer.TheVariants as answer
use Rattle.cg_intervals.specs.Intervals.{last_tried, IsFirst}
use Rattle.cg_map.specs.declared.answering.Costs.{Costs}
use Rattle.cg_map.specs.Tried.{AreAllLeft, IsAnswer}
use Rattle.cg_model.specs.declared.request.Request.{Request}
use Rattle.cg_inputs.specs.Sources.{Pair, GivesPair}
use Rattle.cg_command_map.specs.Searches.{IsSearchOver, is_above}
use Rattle.cg_command_map.specs.Answered.{IsAnswered, left_report}
use Rattle.cg_command_map.specs.Runs.{IsFoundRun, IsLeftRun}

-- the word for how `map` finds mappings: by the walk
abbrev pub word : Bytes
word = codes "walk"

-- the report of `map` on the costs that are left
abbrev pub cost_text : Pair → Costs → Bytes
cost_text p c = left_report (codes "cost") c.first c.costs.items

-- an answer of the search for a pair
abbrev pub IsAnswerOf : Request → Pair → Answer Costs → Type 0
IsAnswerOf s p a = IsAnswer p.arch p.kernel s.ii s.seed s.moves a

-- the search has an answer; which certificate shows that an interval is impossible is left open
abbrev pub IsWalk : Request → List Name → Pair → Outcome → Type 0
IsWalk s outs p o = IsAnswered word cost_text s outs p (IsAnswerOf s p) o

-- given the contents of the files
abbrev pub IsMap : Request → File → File → List Name → Outcome → Type 0
IsMap s arch kernel outs o = IsSearchOver (IsWalk s outs) s arch kernel o

-- ---- what is accepted, and what is left

-- the files contain an architecture and a kernel, and the hub suffices at the last interval that is tried, or the
-- answer of the search is a mapping
pub record IsMappable (s : Request) (arch kernel : File) : Type 0 where
  pub pair : Pair
  pub given : GivesPair arch.bytes kernel.bytes pair
  pub within : is_above s.ii pair.arch ≡ false
  pub mappable : HubEnough pair.arch pair.kernel (last_tried pair.arch s.ii)
      ⊎ ((mapped : Mapped) × (found_by : FoundBy) × IsAnswerOf s pair (answer.Mapped mapped found_by))

-- the mapping is the one at the first interval at which one is found: the search finds no other
pub record IsOnlyMapping (s : Request) (p : Pair) (m : Mapped) (found_by : FoundBy) : Type 0 where
  pub found : IsAnswerOf s p (answer.Mapped m found_by)
  pub only : (other : Mapped) (by : FoundBy) → IsAnswerOf s p (answer.Mapped other by) → (other ≡ m) × (by ≡ found_by)

-- Done: the only mapping of the search is written
abbrev pub IsMapRun : Request → Name → Name → List Name → Moment → Moment → Type 0
IsMapRun s arch kernel outs before after = IsFoundRun word (IsOnlyMapping s) s arch kernel outs before after

-- these costs are left from the first interval on
abbrev pub AreCosts : Request → Pair → Costs → Type 0
AreCosts s p c =
    IsFirst p.arch p.kernel s.ii c.first × AreAllLeft p.arch p.kernel s.ii s.seed s.moves c.first c.costs.items

-- BudgetSpent: the costs that are left are reported
abbrev pub IsSpentRun : Request → Name → Name → Moment → Moment → Type 0
IsSpentRun s arch kernel before after = IsLeftRun cost_text (AreCosts s) s arch kernel before after
