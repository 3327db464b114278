-- Sets of operations for which there are more nodes than the units can take, and assignments of nodes to units.
use Rattle.std.specs.List.{list_any}
use Rattle.std.specs.Prelude.{◌≡◌, ℕ, ◌*◌, ◌<◌, ◌≤◌, ◌&&◌, ◌==◌, Bool, true, List, length, count_by, slice_index}
use Rattle.cg_word.specs.declared.op.Op.{Op}
use Rattle.cg_word.specs.Word.{all_ops}
use Rattle.cg_word.specs.Sets.{among}
use Rattle.cg_model.specs.declared.kernel.Node.{Node}
use Rattle.cg_model.specs.Kernel.{Kernel, node, size}
use Rattle.cg_model.specs.declared.array.Unit.{Unit}
use Rattle.cg_model.specs.Array.{Arch, unit}
use Rattle.cg_class.specs.declared.class.Assignment.{Assignment}
use Rattle.cg_class.specs.declared.class.Assignment.TheVariants.{Overfull, Units}

-- some operation of the set is offered
unfoldable pub offers_one : List Op → List Op → Bool
offers_one set offered = list_any (λ op. among set op && among offered op) all_ops

-- the number of nodes whose operation is in the set
abbrev pub nodes_in : List Node → List Op → ℕ
nodes_in nodes set = count_by (λ n. among set n.op) nodes

-- the number of units that offer an operation of the set
abbrev pub units_for : List Unit → List Op → ℕ
units_for units set = count_by (λ u. offers_one set u.ops) units

-- more nodes have an operation of the set than its units can begin in an interval of ii cycles
abbrev pub IsOverfull : Arch → Kernel → ℕ → List Op → Type 0
IsOverfull A K ii set = ii * units_for A.units set < nodes_in K.nodes set

-- an operation of the set is that of a node
abbrev pub AreOfNodes : Kernel → List Op → Type 0
AreOfNodes K set = (op : Op) → among set op ≡ true → (v : ℕ) × (v < size K) × ((node K v).op ≡ op)

-- the number of nodes on unit x
abbrev pub load : List ℕ → ℕ → ℕ
load places x = count_by (λ y. y == x) places

-- each node is on a unit that offers its operation, at most ii nodes on each unit
pub record IsAssignment (A : Arch) (K : Kernel) (ii : ℕ) (places : List ℕ) : Type 0 where
  pub each : length places ≡ size K
  pub known : (v : ℕ) → v < size K → slice_index places v < length A.units
  pub offered : (v : ℕ) → v < size K → among (unit A (slice_index places v)).ops (node K v).op ≡ true
  pub room : (x : ℕ) → x < length A.units → load places x ≤ ii

-- an overfull set of operations of nodes; or an assignment, if no set is overfull
abbrev pub IsAnswer : Arch → Kernel → ℕ → Assignment → Type 0
IsAnswer A K ii (Overfull s) = IsOverfull A K ii s × AreOfNodes K s
IsAnswer A K ii (Units places) = IsAssignment A K ii places.items × ((s : List Op) → IsOverfull A K ii s → ⊥)
