-- Where a search begins: at the first interval that no reason excludes.
use Rattle.std.specs.Prelude.{◌≡◌, ℕ, ◌+◌, ◌<◌, ◌≤◌, Option, Some, None}
use Rattle.cg_model.specs.Kernel.{Kernel}
use Rattle.cg_model.specs.Array.{Arch}
use Rattle.cg_intervals.specs.Intervals.{last_tried}
use Rattle.cg_bound_all.specs.declared.numbers.HopTables.{HopTables}
use Rattle.cg_bound_all.specs.Why.{AreAllNumbers, hops_at, Shows, IsImpossible}
use Rattle.cg_search.specs.declared.begin.Exclusion.{Exclusion}
use Rattle.cg_search.specs.declared.begin.Begin.{Begin}
use Rattle.cg_search.specs.declared.begin.Begin.TheVariants.{At, Nowhere}

-- the least interval that may be tried: the asked one, or 1
abbrev pub first_asked : Option ℕ → ℕ
first_asked None = 1
first_asked (Some ii) = ii

-- the first interval that no reason excludes, of those that may be tried; one more than the last of them where each is
-- excluded
pub record IsBegin (A : Arch) (K : Kernel) (asked : Option ℕ) (first : ℕ) : Type 0 where
  pub tables : HopTables
  pub numbers : AreAllNumbers A K tables
  pub from : first_asked asked ≤ first
  pub within : first ≤ last_tried A asked + 1
  pub excluded : (ii : ℕ) → first_asked asked ≤ ii → ii < first → IsImpossible A K tables ii
  pub free : first ≤ last_tried A asked → IsImpossible A K tables first → ⊥

-- a reason that excludes interval ii
pub record ExcludesAt (A : Arch) (K : Kernel) (ii : ℕ) (x : Exclusion) : Type 0 where
  pub interval : x.interval ≡ ii
  pub numbers : AreAllNumbers A K x.tables
  pub shown : Shows A K (hops_at x.tables ii) ii x.reason

-- the interval at which a search begins, if there is one; what excludes the last interval where each is excluded
abbrev pub Begins : Arch → Kernel → Option ℕ → Begin → Type 0
Begins A K asked (At first) = IsBegin A K asked first × (first ≤ last_tried A asked)
Begins A K asked (Nowhere x) = IsBegin A K asked (last_tried A asked + 1) × ExcludesAt A K (last_tried A asked) x
