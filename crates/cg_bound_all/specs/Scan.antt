-- How least intervals are found, by linear or by binary search.
use Rattle.std.specs.Prelude.{◌≡◌, ℕ, ◌+◌, ◌-◌, ◌<◌, ◌≤◌, List, Contains, take, Option, Some, None}
use Rattle.cg_model.specs.Kernel.{Kernel}
use Rattle.cg_model.specs.Array.{Arch}
use Rattle.cg_bound_registers.specs.Times.{AreLoose}
use Rattle.cg_bound_all.specs.declared.reason.Kind.{Kind}
use Rattle.cg_bound_all.specs.declared.reason.Kind.TheVariants as kinds
use Rattle.cg_bound_all.specs.declared.reason.Reason.{Reason}
use Rattle.cg_bound_all.specs.declared.numbers.HopTables.{HopTables}
use Rattle.cg_bound_all.specs.declared.bounds.Bound.{Bound}
use Rattle.cg_bound_all.specs.declared.least.Verdict.{Verdict}
use Rattle.cg_bound_all.specs.declared.least.Verdict.TheVariants.{Excluded, Open}
use Rattle.cg_bound_all.specs.Why.{hops_at, IsExcluded, Shows, kind_of, Excludes, IsImpossible, below_of, IsShown, IsGiven, IsSaid}

-- ---- one interval

-- a reason of the given kind, or None if none excludes the interval
abbrev pub IsFound : Arch → Kernel → (ℕ → ℕ → ℕ) → ℕ → Kind → Option Reason → Type 0
IsFound A K hops ii kind (Some r) = Shows A K hops ii r × (kind_of r ≡ kind)
IsFound A K hops ii kind None = IsExcluded A K hops ii kind → ⊥

-- a reason, or None if no recurrence, no set of operations and no ways exclude the interval
abbrev pub IsOther : Arch → Kernel → (ℕ → ℕ → ℕ) → ℕ → Option Reason → Type 0
IsOther A K hops ii (Some r) = Shows A K hops ii r
IsOther A K hops ii None =
    (IsExcluded A K hops ii kinds.Recurrence → ⊥) × (IsExcluded A K hops ii kinds.Class → ⊥) × (IsExcluded A K hops ii kinds.Ways → ⊥)

-- a reason that excludes interval ii; or times that show that registers don't exclude it, if no reason does
abbrev pub IsVerdict : Arch → Kernel → HopTables → ℕ → Verdict → Type 0
IsVerdict A K f ii (Excluded r) = Shows A K (hops_at f ii) ii r
IsVerdict A K f ii (Open t) = (IsImpossible A K f ii → ⊥) × AreLoose A K (hops_at f ii) ii t

-- ---- linear search

-- each interval below ii is excluded by a reason of the given kind, and one for the greatest of them is given
pub record IsBoundTo (A : Arch) (K : Kernel) (f : HopTables) (kind : Kind) (ii : ℕ) (below : Option Reason) : Type 0 where
  pub excluded : (i : ℕ) → 1 ≤ i → i < ii → Excludes A K f kind i
  pub shown : IsShown A K f kind (ii - 1) below

-- each interval below l is impossible, and the least interval of a kind shows this for the greatest of them
pub record MayBegin (A : Arch) (K : Kernel) (f : HopTables) (bounds : List Bound) (l : ℕ) : Type 0 where
  pub some : 1 ≤ l
  pub within : l ≤ A.contexts + 1
  pub below : (i : ℕ) → 1 ≤ i → i < l → IsImpossible A K f i
  pub given : IsGiven A bounds (l - 1)

-- and the least intervals of the first k kinds are no greater than l
pub record MayBeginAfter (A : Arch) (K : Kernel) (f : HopTables) (bounds : List Bound) (k l : ℕ) : Type 0 where
  pub begin : MayBegin A K f bounds l
  pub above : (bound : Bound) → Contains (take k bounds) bound → below_of A.contexts bound.least < l

-- each interval from there on up to ii is impossible too, and a reason that excludes the interval below ii is given
pub record IsLeastTo (A : Arch) (K : Kernel) (f : HopTables) (bounds : List Bound) (ii : ℕ) (below : Option Reason) : Type 0 where
  pub some : 1 ≤ ii
  pub above : (bound : Bound) → Contains bounds bound → below_of A.contexts bound.least < ii
  pub each : (i : ℕ) → 1 ≤ i → i < ii → IsImpossible A K f i
  pub said : IsSaid A K f bounds (ii - 1) below

-- ---- binary search

-- reasons of the given kind exclude each interval up to `low`, one for that interval is given, and none excludes `high`
pub record IsBetween (A : Arch) (K : Kernel) (f : HopTables) (kind : Kind) (low high : ℕ) (below : Option Reason) : Type 0 where
  pub some : 1 ≤ low
  pub apart : low < high
  pub within : high ≤ A.contexts
  pub free : Excludes A K f kind high → ⊥
  pub to : IsBoundTo A K f kind (low + 1) below

-- reasons of the given kind exclude each interval up to `low`, one for that interval is given, and one that excludes each
-- from `high` on to the greatest
pub record IsClosing (A : Arch) (K : Kernel) (f : HopTables) (kind : Kind) (low high : ℕ) (below above : Reason) : Type 0 where
  pub some : 1 ≤ low
  pub apart : low < high
  pub within : high ≤ A.contexts
  pub to : IsBoundTo A K f kind (low + 1) (Some below)
  pub from : (i : ℕ) → high ≤ i → i ≤ A.contexts → IsShown A K f kind i (Some above)
