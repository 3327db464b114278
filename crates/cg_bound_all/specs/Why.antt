-- Why no legal mapping of a kernel has an interval, by four kinds of reasons, and the least interval that none of them
-- excludes.
use Rattle.std.specs.Prelude.{◌≡◌, ℕ, ◌-◌, ◌<◌, ◌≤◌, ◌⊎◌, ⊤, eqb, if◌then◌else◌, List, [], ◌∷◌, Contains, map, take, Option, Some, None, slice_index, unwrap_or}
use Rattle.cg_word.specs.declared.op.Op.{Op}
use Rattle.cg_model.specs.declared.kernel.Operand.TheVariants.{Edge}
use Rattle.cg_model.specs.Kernel.{Kernel, HasOperand}
use Rattle.cg_model.specs.Array.{Arch}
use Rattle.cg_recur.specs.declared.edge.EdgeId.{EdgeId}
use Rattle.cg_recur.specs.Recurrences.{IsRecurrence}
use Rattle.cg_class.specs.Class.{IsOverfull}
use Rattle.cg_bound_routes.specs.declared.missing.Missing.{Missing}
use Rattle.cg_bound_routes.specs.Ways.{AreLeastHops}
use Rattle.cg_bound_registers.specs.declared.certificate.Pressure.{Pressure}
use Rattle.cg_bound_registers.specs.declared.times.Times.{Times}
use Rattle.cg_bound_registers.specs.Pressure.{IsPressure}
use Rattle.cg_bound_registers.specs.Sums.{table, IsShort}
use Rattle.cg_bound_registers.specs.Times.{AreLoose}
use Rattle.cg_bound_recurrence.specs.WayCycles.{IsWayCycle}
use Rattle.cg_bound_all.specs.declared.reason.Kind.{Kind}
use Rattle.cg_bound_all.specs.declared.reason.Kind.TheVariants as kinds
use Rattle.cg_bound_all.specs.declared.reason.Reason.{Reason}
use Rattle.cg_bound_all.specs.declared.reason.Reason.TheVariants.{Recurrence, Class, NoWay, Ways, Registers}
use Rattle.cg_bound_all.specs.declared.numbers.Numbers.{Numbers}
use Rattle.cg_bound_all.specs.declared.numbers.HopTables.{HopTables}
use Rattle.cg_bound_all.specs.declared.bounds.Bound.{Bound}
use Rattle.cg_bound_all.specs.declared.least.Least.{Least}
use Rattle.cg_bound_all.specs.declared.why.Why.{Why}

-- ---- the registers on ways

-- hops gives for each data edge the least number of registers on its ways at interval ii, and 0 if there is no way
abbrev pub AreHops : Arch → Kernel → ℕ → (ℕ → ℕ → ℕ) → Type 0
AreHops A K ii hops =
    (v p u d : ℕ) (init : List ℕ) → HasOperand K v p (Edge u d init) → (o : Option ℕ) × AreLeastHops A K ii v p o × (hops v p ≡ unwrap_or o 0)

-- operand p of node v is a data edge, and at interval ii there is no way for it
abbrev pub HasNoWay : Arch → Kernel → ℕ → ℕ → ℕ → Type 0
HasNoWay A K ii v p = (u : ℕ) × (d : ℕ) × (init : List ℕ) × HasOperand K v p (Edge u d init) × AreLeastHops A K ii v p None

-- a data edge without a way, or None if each has one
abbrev pub IsMissing : Arch → Kernel → ℕ → Option Missing → Type 0
IsMissing A K ii (Some m) = HasNoWay A K ii m.node m.arg
IsMissing A K ii None = (v p : ℕ) → HasNoWay A K ii v p → ⊥

-- the numbers of an interval: a table with three numbers per node, and a data edge without a way, if there is one
pub record AreNumbers (A : Arch) (K : Kernel) (ii : ℕ) (n : Numbers) : Type 0 where
  pub tables : AreHops A K ii (table n.hops.items)
  pub missing : IsMissing A K ii n.missing
  pub small : (k : ℕ) → slice_index n.hops.items k ≤ 4096

-- the numbers of interval 1, and those of every greater interval
pub record AreAllNumbers (A : Arch) (K : Kernel) (f : HopTables) : Type 0 where
  pub first : AreNumbers A K 1 f.first
  pub rest : (ii : ℕ) → 2 ≤ ii → AreNumbers A K ii f.rest

-- the numbers at interval ii
abbrev pub numbers_at : HopTables → ℕ → Numbers
numbers_at f ii = if eqb ii 1 then f.first else f.rest

abbrev pub hops_at : HopTables → ℕ → ℕ → ℕ → ℕ
hops_at f ii = table (numbers_at f ii).hops.items

-- ---- reasons

-- a reason of the given kind excludes the interval
abbrev pub IsExcluded : Arch → Kernel → (ℕ → ℕ → ℕ) → ℕ → Kind → Type 0
IsExcluded A K hops ii kinds.Recurrence = (ids : List EdgeId) × IsRecurrence A K ii ids
IsExcluded A K hops ii kinds.Class = (set : List Op) × IsOverfull A K ii set
IsExcluded A K hops ii kinds.Ways =
    ((v : ℕ) × (p : ℕ) × HasNoWay A K ii v p) ⊎ ((ids : List EdgeId) × IsWayCycle A K hops ii ids)
IsExcluded A K hops ii kinds.Registers = (P : Pressure) × IsPressure A K hops ii P

-- a reason is right, with lists that are short
abbrev pub Shows : Arch → Kernel → (ℕ → ℕ → ℕ) → ℕ → Reason → Type 0
Shows A K hops ii (Recurrence ids) = IsRecurrence A K ii ids.items
Shows A K hops ii (Class set) = IsOverfull A K ii set
Shows A K hops ii (NoWay m) = HasNoWay A K ii m.node m.arg
Shows A K hops ii (Ways ids) = IsWayCycle A K hops ii ids.items
Shows A K hops ii (Registers P) = IsPressure A K hops ii P × IsShort P

-- the lists of a reason are short
abbrev pub HasShortLists : Reason → Type 0
HasShortLists (Recurrence ids) = ⊤
HasShortLists (Class set) = ⊤
HasShortLists (NoWay m) = ⊤
HasShortLists (Ways ids) = ⊤
HasShortLists (Registers P) = IsShort P

abbrev pub kind_of : Reason → Kind
kind_of (Recurrence ids) = kinds.Recurrence
kind_of (Class set) = kinds.Class
kind_of (NoWay m) = kinds.Ways
kind_of (Ways ids) = kinds.Ways
kind_of (Registers P) = kinds.Registers

-- ---- least intervals

-- the least number from 1 to `most` without a property; None if each has it
abbrev pub IsLeastWithout : (ℕ → Type 0) → ℕ → Option ℕ → Type 0
IsLeastWithout P most (Some l) = (1 ≤ l) × (l ≤ most) × (P l → ⊥) × ((i : ℕ) → 1 ≤ i → i < l → P i)
IsLeastWithout P most None = (i : ℕ) → 1 ≤ i → i ≤ most → P i

-- a reason of the given kind excludes interval ii
abbrev pub Excludes : Arch → Kernel → HopTables → Kind → ℕ → Type 0
Excludes A K f kind ii = IsExcluded A K (hops_at f ii) ii kind

-- some reason excludes interval ii
abbrev pub IsImpossible : Arch → Kernel → HopTables → ℕ → Type 0
IsImpossible A K f ii = (kind : Kind) × Excludes A K f kind ii

-- a reason that excludes interval ii, or None if none does
abbrev pub IsExclusion : Arch → Kernel → HopTables → ℕ → Option Reason → Type 0
IsExclusion A K f ii (Some r) = Shows A K (hops_at f ii) ii r
IsExclusion A K f ii None = IsImpossible A K f ii → ⊥

-- the interval below a least one, from 1 to `most`
abbrev pub below_of : ℕ → Option ℕ → ℕ
below_of most (Some l) = l - 1
below_of most None = most

-- a reason of the given kind that excludes interval ii, or None if ii is 0
abbrev pub IsShown : Arch → Kernel → HopTables → Kind → ℕ → Option Reason → Type 0
IsShown A K f kind ii (Some r) = Shows A K (hops_at f ii) ii r × (kind_of r ≡ kind)
IsShown A K f kind ii None = ii ≡ 0

-- the least interval that no reason of its kind excludes, and a reason that excludes the one below it
pub record IsBound (A : Arch) (K : Kernel) (f : HopTables) (bound : Bound) : Type 0 where
  pub least : IsLeastWithout (Excludes A K f bound.kind) A.contexts bound.least
  pub below : IsShown A K f bound.kind (below_of A.contexts bound.least) bound.below

-- the kinds, in order
abbrev pub all_kinds : List Kind
all_kinds = kinds.Recurrence ∷ kinds.Ways ∷ kinds.Class ∷ kinds.Registers ∷ []

-- the least intervals of the first k kinds
pub record AreBounds (A : Arch) (K : Kernel) (f : HopTables) (k : ℕ) (bounds : List Bound) : Type 0 where
  pub each : map (λ (bound : Bound). bound.kind) bounds ≡ take k all_kinds
  pub right : (bound : Bound) → Contains bounds bound → IsBound A K f bound

-- times that show that registers don't exclude the least interval; none if there is no least interval
abbrev pub AreFree : Arch → Kernel → HopTables → Option ℕ → Option Times → Type 0
AreFree A K f (Some l) (Some t) = AreLoose A K (hops_at f l) l t
AreFree A K f None None = ⊤
AreFree A K f (Some l) None = ⊥
AreFree A K f None (Some t) = ⊥

-- interval ii is 0, or below the least interval of a kind, whose reason excludes it
abbrev pub IsGiven : Arch → List Bound → ℕ → Type 0
IsGiven A bounds ii = (ii ≡ 0) ⊎ ((bound : Bound) × Contains bounds bound × (below_of A.contexts bound.least ≡ ii))

-- a reason that excludes interval ii, if no least interval of a kind gives one; none if one does, or ii is 0
abbrev pub IsSaid : Arch → Kernel → HopTables → List Bound → ℕ → Option Reason → Type 0
IsSaid A K f bounds ii (Some r) = Shows A K (hops_at f ii) ii r × (IsGiven A bounds ii → ⊥)
IsSaid A K f bounds ii None = IsGiven A bounds ii

-- the least interval that no reason excludes, and what excludes the one below it
pub record IsLeast (A : Arch) (K : Kernel) (f : HopTables) (bounds : List Bound) (l : Least) : Type 0 where
  pub least : IsLeastWithout (IsImpossible A K f) A.contexts l.interval
  pub free : AreFree A K f l.interval l.times
  pub said : IsSaid A K f bounds (below_of A.contexts l.interval) l.below

-- the least interval that no reason excludes, and the least intervals of each kind
pub record IsWhy (A : Arch) (K : Kernel) (w : Why) : Type 0 where
  pub tables : AreAllNumbers A K w.tables
  pub bounds : AreBounds A K w.tables 4 w.bounds.items
  pub least : IsLeast A K w.tables w.bounds.items w.least
