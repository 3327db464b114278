-- The state of the code while it finds the needs and chooses the edges.
use Rattle.std.specs.Prelude.{◌≡◌, ℕ, ◌<◌, ◌⊎◌, List, Contains, length, slice_index, slice_index_or}
use Rattle.cg_model.specs.declared.kernel.Node.{Node}
use Rattle.cg_model.specs.declared.kernel.OrderEdge.{OrderEdge}
use Rattle.cg_model.specs.Kernel.{Kernel, IsKernel, size, no_node}
use Rattle.cg_depend.specs.Depend.{Within}
use Rattle.cg_simplify_order.specs.Needs.{IsNamesake, IsNeed}

-- the given kernel and the rewritten one
pub record Pair : Type 0 where
  pub given : Kernel
  pub rewritten : Kernel

-- one of the nodes has that name
abbrev pub IsCalled : List Node → List ℕ → Type 0
IsCalled nodes name = (x : ℕ) × (x < length nodes) × ((slice_index_or nodes x no_node).name ≡ name)

-- each node of L has the number of its namesake in K, which is valid
pub record HasNamesakes (K L : Kernel) (numbers : List ℕ) : Type 0 where
  pub valid : IsKernel K
  pub long : length numbers ≡ size L
  pub each : (u : ℕ) → u < size L → IsNamesake K L (slice_index numbers u) u

-- v hasn't to come after u
abbrev pub HasNoNeed : Kernel → Kernel → ℕ → ℕ → Type 0
HasNoNeed K L u v = (r : ℕ) → IsNeed K L u v r → ⊥

abbrev pub edge : ℕ → ℕ → ℕ → OrderEdge
edge u v r = record { from = u; to = v; distance = r }

-- from `old` to `new` the needs between the asked nodes were added
pub record Adds (K L : Kernel) (asked : ℕ → ℕ → Type 0) (old new : List OrderEdge) : Type 0 where
  pub kept : (e : OrderEdge) → Contains old e → Contains new e
  pub fresh : (e : OrderEdge) → Contains new e → Contains old e ⊎ IsNeed K L e.from e.to e.distance
  pub taken : (u v r : ℕ) → asked u v → IsNeed K L u v r → Contains new (edge u v r)

-- node u is asked about node v alone
abbrev pub OnePair : ℕ → ℕ → ℕ → ℕ → Type 0
OnePair u v x y = (x ≡ u) × (y ≡ v)

-- node u is asked about the nodes before node v
abbrev pub PairsTo : ℕ → ℕ → ℕ → ℕ → Type 0
PairsTo u v x y = (x ≡ u) × (y < v)

-- node u is asked about all nodes
abbrev pub AllPairs : ℕ → ℕ → ℕ → Type 0
AllPairs u x y = x ≡ u

-- the nodes before node u are asked about all nodes
abbrev pub RowsTo : ℕ → ℕ → ℕ → Type 0
RowsTo u x y = x < u

-- these are the needs of L, all of them
pub record AreAllNeeds (K L : Kernel) (needs : List OrderEdge) : Type 0 where
  pub sound : (e : OrderEdge) → Contains needs e → IsNeed K L e.from e.to e.distance
  pub complete : (u v r : ℕ) → IsNeed K L u v r → Contains needs (edge u v r)

-- each of `some` is one of `all`
abbrev pub AreAmong : List OrderEdge → List OrderEdge → Type 0
AreAmong all some = (e : OrderEdge) → Contains some e → Contains all e

-- from `old` to `new` at most e was added
abbrev pub AddsAtMost : OrderEdge → List OrderEdge → List OrderEdge → Type 0
AddsAtMost e old new = (f : OrderEdge) → Contains new f → Contains old f ⊎ (e ≡ f)

-- they join numbers below n
abbrev pub JoinBelow : ℕ → List OrderEdge → Type 0
JoinBelow n edges = (e : OrderEdge) → Contains edges e → (e.from < n) × (e.to < n)

-- the kernel with these order edges in place of its own
abbrev pub reordered : Kernel → List OrderEdge → Kernel
reordered K es = record { nodes = K.nodes; order = es }

-- chains of K's edges lead over at most as many turns as each of these says
abbrev pub AreWithin : Kernel → List OrderEdge → Type 0
AreWithin K needs = (e : OrderEdge) → Contains needs e → Within K e.from e.to e.distance
