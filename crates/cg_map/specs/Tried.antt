-- The answer of a search for a mapping: the intervals that are tried, the result of each, and the first mapping.
use Rattle.std.specs.Prelude.{◌≡◌, ℕ, ◌+◌, ◌≤◌, List, [], ◌∷◌, length, Option}
use Rattle.cg_model.specs.Kernel.{Kernel}
use Rattle.cg_model.specs.Array.{Arch}
use Rattle.cg_check.specs.Legal.{Mapped as MappedValue}
use Rattle.cg_intervals.specs.Intervals.{last_tried}
use Rattle.cg_intervals.specs.Answers as answers
use Rattle.cg_anneal.specs.declared.finding.Found.TheVariants as found
use Rattle.cg_anneal.specs.Ended.{IsWalked}
use Rattle.cg_hub.specs.Hub.{HubEnough, hub_map}
use Rattle.cg_intervals.specs.declared.answering.FoundBy.{FoundBy}
use Rattle.cg_intervals.specs.declared.answering.FoundBy.TheVariants.{Hub, Moves}
use Rattle.cg_map.specs.declared.trying.Attempt.{Attempt}
use Rattle.cg_map.specs.declared.trying.Attempt.TheVariants as at
use Rattle.cg_intervals.specs.declared.answering.Answer.{Answer}
use Rattle.cg_intervals.specs.declared.answering.Answer.TheVariants.{Impossible, Mapped, Unmapped}
use Rattle.cg_map.specs.declared.answering.Costs.{Costs}

module _ (A : Arch) (K : Kernel) (seed moves : ℕ) where
  -- the result of an interval: the hub's mapping where the hub suffices, else the result of the walk with that seed and
  -- at most `moves` moves
  abbrev pub IsAttempt : ℕ → Attempt → Type 0
  IsAttempt ii (at.Mapped m Hub) = HubEnough A K ii × (m ≡ record { arch = A; kernel = K; mapping = hub_map A K ii })
  IsAttempt ii (at.Mapped m (Moves k)) = (HubEnough A K ii → ⊥) × IsWalked A K ii seed moves (found.Mapped m k)
  IsAttempt ii (at.Left cost) = (HubEnough A K ii → ⊥) × IsWalked A K ii seed moves (found.Spent cost)

  -- no mapping is found from that interval on, and these costs are left
  abbrev pub AreLeft : ℕ → List ℕ → Type 0
  AreLeft ii [] = Unit {0}
  AreLeft ii (cost ∷ costs) = IsAttempt ii (at.Left cost) × AreLeft (ii + 1) costs

-- ---- the answer

module _ (A : Arch) (K : Kernel) (asked : Option ℕ) (seed moves : ℕ) where
  -- the mapping is that of the first interval at which one is found
  pub record IsFirstMapping (first : ℕ) (m : MappedValue) (found_by : FoundBy) : Type 0 where
    pub costs : List ℕ
    pub left : AreLeft A K seed moves first costs
    pub within : first + length costs ≤ last_tried A asked
    pub attempt : IsAttempt A K seed moves (first + length costs) (at.Mapped m found_by)

  -- no mapping is found at any interval
  pub record AreAllLeft (first : ℕ) (costs : List ℕ) : Type 0 where
    pub left : AreLeft A K seed moves first costs
    pub all : first + length costs ≡ last_tried A asked + 1

  -- the result of the intervals from the first one on
  abbrev pub IsTried : ℕ → Answer Costs → Type 0
  IsTried first (Impossible certificate) = ⊥
  IsTried first (Mapped m found_by) = IsFirstMapping first m found_by
  IsTried first (Unmapped c) = (c.first ≡ first) × AreAllLeft first c.costs.items

  -- why the last interval is impossible, where a recurrence or an overfull set forbids it; else the result of the
  -- intervals
  abbrev pub IsAnswer : Answer Costs → Type 0
  IsAnswer = answers.IsAnswer A K asked IsTried
