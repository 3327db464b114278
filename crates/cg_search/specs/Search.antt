-- The answer of a search by best responses. How it finds a mapping is left open: every mapping in an answer is legal.
use Rattle.std.specs.Prelude.{◌≡◌, ℕ, ◌+◌, ◌<◌, ◌≤◌, List, [], ◌∷◌, length, Option}
use Rattle.cg_model.specs.Kernel.{Kernel}
use Rattle.cg_model.specs.Array.{Arch}
use Rattle.cg_model.specs.Mapping.{IsLegal}
use Rattle.cg_check.specs.Legal.{Mapped as MappedValue}
use Rattle.cg_bound.specs.Bound.{IsOpen, Shows}
use Rattle.cg_hub.specs.Hub.{HubEnough, hub_map}
use Rattle.cg_intervals.specs.Intervals.{last_tried}
use Rattle.cg_intervals.specs.declared.answering.FoundBy.{FoundBy}
use Rattle.cg_intervals.specs.declared.answering.FoundBy.TheVariants.{Hub, Moves}
use Rattle.cg_intervals.specs.declared.answering.Answer.{Answer}
use Rattle.cg_intervals.specs.declared.answering.Answer.TheVariants.{Impossible, Mapped, Unmapped}
use Rattle.cg_search_respond.specs.Faults.{faults_of}
use Rattle.cg_search_respond.specs.Responded.{IsMissed}
use Rattle.cg_search.specs.declared.misses.Miss.{Miss}
use Rattle.cg_search.specs.declared.answering.Failure.{Failure}
use Rattle.cg_search.specs.declared.answering.Failure.TheVariants.{Excluded, Missed}
use Rattle.cg_search.specs.Begin.{IsBegin, ExcludesAt}

module _ (A : Arch) (K : Kernel) where
  -- what a search at interval ii leaves: a mapping of the kernel's shape that isn't legal, and its number of faults
  pub record IsMiss (ii : ℕ) (miss : Miss) : Type 0 where
    pub missed : IsMissed A K ii miss.mapping
    pub counted : miss.faults ≡ faults_of A K miss.mapping
    pub some : 0 < miss.faults

  -- one at each interval from that one on, in order
  abbrev pub AreMissedFrom : ℕ → List Miss → Type 0
  AreMissedFrom ii [] = Unit {0}
  AreMissedFrom ii (miss ∷ misses) = IsMiss ii miss × AreMissedFrom (ii + 1) misses

module _ (A : Arch) (K : Kernel) (asked : Option ℕ) (moves : ℕ) where
  -- the hub suffices at no interval from the first one on that is less than this one
  abbrev pub HasNoHub : ℕ → ℕ → Type 0
  HasNoHub first ii = (j : ℕ) → first ≤ j → j < ii → HubEnough A K j → ⊥

  -- how a mapping was found: by no more best responses than `moves`; or over the hub, at the first interval where it
  -- suffices
  abbrev pub IsBy : ℕ → MappedValue → FoundBy → Type 0
  IsBy first m (Moves count) = count ≤ moves
  IsBy first m Hub = HubEnough A K m.mapping.ii × HasNoHub first m.mapping.ii × (m.mapping ≡ hub_map A K m.mapping.ii)

  -- a legal mapping of the kernel, at an interval that is tried
  pub record IsFound (first : ℕ) (m : MappedValue) (found_by : FoundBy) : Type 0 where
    pub arch : m.arch ≡ A
    pub kernel : m.kernel ≡ K
    pub legal : IsLegal A K m.mapping
    pub from : first ≤ m.mapping.ii
    pub to : m.mapping.ii ≤ last_tried A asked
    pub by : IsBy first m found_by

  -- no mapping is found at any of the intervals that are tried, and the hub suffices at none
  pub record AreAllMissed (first : ℕ) (misses : List Miss) : Type 0 where
    pub some : first ≤ last_tried A asked
    pub each : AreMissedFrom A K first misses
    pub all : first + length misses ≡ last_tried A asked + 1
    pub no_hub : HasNoHub first (last_tried A asked + 1)

  -- why no mapping is found, where the first interval that no reason excludes is this one: each interval is excluded; or
  -- none of those that are tried has a mapping
  abbrev pub IsFailure : ℕ → Failure → Type 0
  IsFailure first (Excluded x) = (first ≡ last_tried A asked + 1) × ExcludesAt A K (last_tried A asked) x
  IsFailure first (Missed f misses) = (f ≡ first) × AreAllMissed first misses.items

  -- a possible result of the intervals from the first one on
  abbrev pub IsTried : ℕ → Answer Failure → Type 0
  IsTried first (Impossible certificate) = ⊥
  IsTried first (Mapped m found_by) = IsFound first m found_by
  IsTried first (Unmapped failure) = IsFailure first failure

  -- nothing forbids the last interval, and this is the result of the intervals from the first one on that no reason
  -- excludes
  pub record IsBegun (answer : Answer Failure) : Type 0 where
    pub free : IsOpen A K (last_tried A asked)
    pub first : ℕ
    pub is_first : IsBegin A K asked first
    pub tried : IsTried first answer

  -- why the last interval is impossible, where a recurrence or an overfull set forbids it; else the result of the
  -- intervals
  abbrev pub IsAnswer : Answer Failure → Type 0
  IsAnswer (Impossible certificate) = Shows A K (last_tried A asked) certificate
  IsAnswer (Mapped m found_by) = IsBegun (Mapped m found_by)
  IsAnswer (Unmapped failure) = IsBegun (Unmapped failure)
