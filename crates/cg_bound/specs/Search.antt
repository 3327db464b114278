-- The search for operations that no unit offers, and the binary search for the least interval.
use Rattle.std.specs.Prelude.{ℕ, ◌+◌, ◌*◌, ◌<◌, ◌≤◌, ◌&&◌, eqb, not, Bool, List, Option}
use Rattle.std.specs.List.{list_any}
use Rattle.cg_word.specs.declared.op.Op.{Op}
use Rattle.cg_word.specs.Word.{code}
use Rattle.cg_word.specs.Sets.{among}
use Rattle.cg_model.specs.declared.kernel.Node.{Node}
use Rattle.cg_model.specs.Kernel.{Kernel, size}
use Rattle.cg_model.specs.declared.array.Unit.{Unit}
use Rattle.cg_model.specs.Array.{Arch}
use Rattle.cg_class.specs.Class.{IsOverfull, AreOfNodes}
use Rattle.cg_bound.specs.declared.halves.Found.{Found}
use Rattle.cg_bound.specs.declared.interval.Certificate.{Certificate}
use Rattle.cg_bound.specs.Bound.{HasNoRecurrence, HasNoOverfull, IsMii, IsShownBelow}

-- the node has the operation; the unit offers it
abbrev pub has_op : Op → Node → Bool
has_op op n = eqb (code n.op) (code op)

abbrev pub offers : Op → Unit → Bool
offers op u = among u.ops op

-- some node has the operation and no unit offers it
abbrev pub is_unoffered : List Unit → List Node → Op → Bool
is_unoffered units nodes op = list_any (has_op op) nodes && not (list_any (offers op) units)

-- an interval that is open if each operation is offered, since no latency is above 4
abbrev pub limit : Kernel → ℕ
limit K = 4 * size K + 1

-- low is below high, `below` is what is shown of it, and no recurrence forbids high
pub record IsBetween (A : Arch) (K : Kernel) (low high : ℕ) (below : Option Certificate) : Type 0 where
  pub order : low < high
  pub within : high ≤ limit K
  pub shown : IsShownBelow A K (low + 1) below
  pub free : HasNoRecurrence A K high

-- low is below high, the set is overfull there, and no set is overfull at high; from low on there is no recurrence
pub record IsAbove (A : Arch) (K : Kernel) (low high : ℕ) (set : List Op) : Type 0 where
  pub some : 1 ≤ low
  pub order : low < high
  pub within : high ≤ limit K
  pub free : HasNoRecurrence A K low
  pub overfull : IsOverfull A K low set × AreOfNodes K set
  pub none : HasNoOverfull A K high

-- the least interval without a recurrence, and what is shown below it
pub record IsLeastFree (A : Arch) (K : Kernel) (found : Found) : Type 0 where
  pub some : 1 ≤ found.interval
  pub free : HasNoRecurrence A K found.interval
  pub shown : IsShownBelow A K found.interval found.below

-- the least open interval, and what is shown below it
abbrev pub IsLeastOpen : Arch → Kernel → Found → Type 0
IsLeastOpen A K found = IsMii A K found.interval × IsShownBelow A K found.interval found.below
