-- What is reported and written of the answer of a search.
use Rattle.std.specs.Prelude.{◌≡◌, ℕ, ◌+◌, List, [], ◌∷◌, ◌++◌, codes, decimal}
use Rattle.cg_effects.specs.declared.outcome.Status.TheVariants as status
use Rattle.cg_effects.specs.Outcome.{Name, Bytes, Outcome, line_of}
use Rattle.cg_effects.specs.Refusals.{reports}
use Rattle.cg_check.specs.Legal.{Mapped as MappedValue}
use Rattle.cg_intervals.specs.declared.answering.FoundBy.{FoundBy}
use Rattle.cg_intervals.specs.declared.answering.FoundBy.TheVariants.{Hub, Moves}
use Rattle.cg_intervals.specs.declared.answering.Answer.{Answer}
use Rattle.cg_intervals.specs.declared.answering.Answer.TheVariants.{Impossible, Mapped, Unmapped}
use Rattle.cg_model.specs.declared.request.Request.{Request}
use Rattle.cg_inputs.specs.Sources.{Pair}
use Rattle.cg_command_judge.specs.Emit.{emit_report}
use Rattle.cg_command_map.specs.Searches.{IsWritten, impossible_report}

-- ---- reports

-- how a mapping was found
abbrev pub found_line : Bytes → FoundBy → Bytes
found_line by Hub = line_of (codes "by hub" ∷ [])
found_line by (Moves count) = line_of (codes "by " ∷ by ∷ codes " " ∷ decimal count ∷ [])

-- the interval and the stages of the mapping, and how it was found
abbrev pub found_report : Bytes → MappedValue → FoundBy → Bytes
found_report by m found_by = emit_report m ++ found_line by found_by

-- what is left at an interval
abbrev pub left_line : Bytes → ℕ → ℕ → Bytes
left_line word ii n = line_of (codes "ii " ∷ decimal ii ∷ codes " " ∷ word ∷ codes " " ∷ decimal n ∷ [])

-- what is left at each interval, from the interval ii on
abbrev pub left_report : Bytes → ℕ → List ℕ → Bytes
left_report word ii [] = []
left_report word ii (n ∷ left) = left_line word ii n ++ left_report word (ii + 1) left

-- ---- outcomes

-- `word` is the command's own word for how it finds mappings, and `left_text` its own report of what its search leaves
-- where it finds none
module _ {L : Type 0} (word : Bytes) (left_text : Pair → L → Bytes) (s : Request) (outs : List Name) (p : Pair) where
  -- given the answer of the search
  abbrev pub IsOutcomeOf : Answer L → Outcome → Type 0
  IsOutcomeOf (Impossible c) o = o ≡ reports status.Impossible (impossible_report p s c)
  IsOutcomeOf (Mapped m found_by) o = IsWritten outs m (found_report word m found_by) o
  IsOutcomeOf (Unmapped left) o = o ≡ reports status.BudgetSpent (left_text p left)

  -- the search has one of these answers
  pub record IsAnswered (Answers : Answer L → Type 0) (o : Outcome) : Type 0 where
    pub answer : Answer L
    pub is_answer : Answers answer
    pub outcome : IsOutcomeOf answer o
