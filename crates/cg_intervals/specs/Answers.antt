-- The answers of a search, by the possible outcomes of the intervals that it tries.
use Rattle.std.specs.Prelude.{ℕ, Option}
use Rattle.cg_model.specs.Kernel.{Kernel}
use Rattle.cg_model.specs.Array.{Arch}
use Rattle.cg_bound.specs.Bound.{IsOpen, Shows}
use Rattle.cg_intervals.specs.declared.answering.Answer.{Answer}
use Rattle.cg_intervals.specs.declared.answering.Answer.TheVariants.{Impossible, Mapped, Unmapped}
use Rattle.cg_intervals.specs.Intervals.{last_tried, IsFirst}

-- the answer is a mapping
abbrev pub IsMapping : {L : Type 0} → Answer L → Type 0
IsMapping (Impossible certificate) = ⊥
IsMapping (Mapped m found_by) = Unit {0}
IsMapping (Unmapped left) = ⊥

-- `Comes first answer` says that the answer is a possible outcome of the intervals from the first one on
module _ {L : Type 0} (A : Arch) (K : Kernel) (asked : Option ℕ) (Comes : ℕ → Answer L → Type 0) where
  -- nothing forbids the last interval, and the answer is an outcome of the intervals that are tried
  pub record IsSearched (answer : Answer L) : Type 0 where
    pub free : IsOpen A K (last_tried A asked)
    pub first : ℕ
    pub is_first : IsFirst A K asked first
    pub tried : Comes first answer

  -- why the last interval is impossible, if a recurrence or an overfull set forbids it; else an outcome of the
  -- intervals
  abbrev pub IsAnswer : Answer L → Type 0
  IsAnswer (Impossible certificate) = Shows A K (last_tried A asked) certificate
  IsAnswer (Mapped m found_by) = IsSearched (Mapped m found_by)
  IsAnswer (Unmapped left) = IsSearched (Unmapped left)
