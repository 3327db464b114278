-- The binary searches.
use Rattle.std.specs.Prelude.{ℕ, ◌<◌, List}
use Rattle.cg_word.specs.declared.op.Op.{Op}
use Rattle.cg_model.specs.Kernel.{Kernel}
use Rattle.cg_model.specs.Array.{Arch}
use Rattle.cg_recur.specs.declared.edge.EdgeId.{EdgeId}
use Rattle.cg_recur.specs.Edges.{edge_of}
use Rattle.cg_recur.specs.Chain.{IsShown}
use Rattle.cg_recur.specs.Recurrences.{IsRecurrence, HasNoRecurrence}
use Rattle.cg_class.specs.Class.{IsOverfull, AreOfNodes}
use Rattle.cg_bound.specs.Bound.{HasNoOverfull}

-- the chain forbids low, and no recurrence forbids high
pub record IsBetweenChains (A : Arch) (K : Kernel) (low high : ℕ) (chain : List EdgeId) : Type 0 where
  pub order : low < high
  pub forbids : IsRecurrence A K low chain × IsShown (edge_of A K) chain
  pub free : HasNoRecurrence A K high

-- the set is overfull at low, and none is at high
pub record IsBetweenClasses (A : Arch) (K : Kernel) (low high : ℕ) (set : List Op) : Type 0 where
  pub order : low < high
  pub overfull : IsOverfull A K low set × AreOfNodes K set
  pub free : HasNoOverfull A K high
