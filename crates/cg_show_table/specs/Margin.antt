-- The lower intervals that a kernel's recurrences and its classes of operations allow, each considered alone.
use Rattle.std.specs.Prelude.{◌-◌, ◌≤◌, Option, Some, None}
use Rattle.cg_model.specs.Kernel.{Kernel}
use Rattle.cg_model.specs.Array.{Arch}
use Rattle.cg_recur.specs.Edges.{edge_of}
use Rattle.cg_recur.specs.Chain.{IsShown}
use Rattle.cg_recur.specs.Recurrences.{IsRecurrence, HasNoRecurrence}
use Rattle.cg_class.specs.Class.{IsOverfull, AreOfNodes}
use Rattle.cg_bound.specs.Bound.{HasNoOverfull}
use Rattle.cg_show_table.specs.declared.margin.LongChain.{LongChain}
use Rattle.cg_show_table.specs.declared.margin.FullClass.{FullClass}
use Rattle.cg_show_table.specs.declared.margin.Margin.{Margin}

-- no recurrence forbids the least interval, and this chain, in its shown form, forbids the one below it
pub record IsLongest (A : Arch) (K : Kernel) (c : LongChain) : Type 0 where
  pub some : 1 ≤ c.least
  pub free : HasNoRecurrence A K c.least
  pub forbids : IsRecurrence A K (c.least - 1) c.edges.items
  pub shown : IsShown (edge_of A K) c.edges.items

-- no set of operations is overfull at the least interval, and this one, of nodes' operations, is overfull at the
-- interval below it
pub record IsFullest (A : Arch) (K : Kernel) (c : FullClass) : Type 0 where
  pub some : 1 ≤ c.least
  pub free : HasNoOverfull A K c.least
  pub overfull : IsOverfull A K (c.least - 1) c.ops
  pub own : AreOfNodes K c.ops

-- where there is none, nothing forbids even the interval 0: no chain is closed, and there is no node
abbrev pub IsChain : Arch → Kernel → Option LongChain → Type 0
IsChain A K None = HasNoRecurrence A K 0
IsChain A K (Some c) = IsLongest A K c

abbrev pub IsClass : Arch → Kernel → Option FullClass → Type 0
IsClass A K None = HasNoOverfull A K 0
IsClass A K (Some c) = IsFullest A K c

-- the chain and the class that are shown are left open where several are possible
pub record IsMargin (A : Arch) (K : Kernel) (m : Margin) : Type 0 where
  pub chain : IsChain A K m.chain
  pub «class» : IsClass A K m.«class»
