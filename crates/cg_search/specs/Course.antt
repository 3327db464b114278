-- The preconditions of the searches of a call, and their results.
use Rattle.std.specs.Prelude.{◌≡◌, ℕ, ◌+◌, ◌≤◌, List, length, Option}
use Rattle.cg_model.specs.Kernel.{Kernel}
use Rattle.cg_model.specs.Array.{Arch}
use Rattle.cg_bound.specs.Bound.{IsOpen}
use Rattle.cg_intervals.specs.Intervals.{IsAsked, last_tried}
use Rattle.cg_intervals.specs.declared.answering.FoundBy.TheVariants as found_by
use Rattle.cg_search_respond.specs.declared.responding.Responded.{Responded}
use Rattle.cg_search_respond.specs.declared.responding.Responded.TheVariants as responded
use Rattle.cg_search_respond.specs.Faults.{faults_of}
use Rattle.cg_search_respond.specs.Responded.{IsMissed}
use Rattle.cg_search.specs.declared.trying.Found.{Found as FoundMapping}
use Rattle.cg_search.specs.declared.misses.Miss.{Miss}
use Rattle.cg_search.specs.declared.trying.Outcome.{Outcome}
use Rattle.cg_search.specs.declared.trying.Outcome.TheVariants.{Found, Left}
use Rattle.cg_search.specs.Begin.{IsBegin}
use Rattle.cg_search.specs.Search.{IsFound, AreMissedFrom}

-- the interval may be asked for, nothing forbids the last one that is tried, and the first one that no reason excludes
-- is among them
pub record IsPosed (A : Arch) (K : Kernel) (asked : Option ℕ) (first : ℕ) : Type 0 where
  pub within : IsAsked A asked
  pub free : IsOpen A K (last_tried A asked)
  pub begin : IsBegin A K asked first
  pub some : first ≤ last_tried A asked

module _ (A : Arch) (K : Kernel) (asked : Option ℕ) (moves : ℕ) (first : ℕ) where
  -- a mapping is found at an interval that is tried, by no more moves than `moves`
  abbrev pub IsLegalFound : FoundMapping → Type 0
  IsLegalFound found = IsFound A K asked moves first found.mapping (found_by.Moves found.moves)

  -- the result of a search at one interval: a legal mapping, or a mapping that isn't legal, and its number of faults
  abbrev pub IsSearched : ℕ → Responded → Type 0
  IsSearched ii (responded.Mapped m count) = IsFound A K asked moves first m (found_by.Moves count)
  IsSearched ii (responded.Spent faults M) = (faults ≡ faults_of A K M) × IsMissed A K ii M

  -- these are left at all intervals
  abbrev pub AreLeft : List Miss → Type 0
  AreLeft misses = AreMissedFrom A K first misses × (first + length misses ≡ last_tried A asked + 1)

  -- the result of searches at all intervals: a legal mapping, or what is left at each interval
  abbrev pub Comes : Outcome → Type 0
  Comes (Found found) = IsLegalFound found
  Comes (Left misses) = AreLeft misses.items
