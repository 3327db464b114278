-- Chains of a kernel's edges, where these are one list.
use Rattle.std.specs.Prelude.{◌≡◌, ℕ, ◌⊎◌, ◌<◌, List, [], ◌∷◌, ◌++◌, length, flat_map, Some, slice_get, slice_index_or}
use Rattle.std.specs.List.{range_with_len}
use Rattle.cg_model.specs.declared.kernel.Node.{Node}
use Rattle.cg_model.specs.declared.kernel.Operand.{Operand}
use Rattle.cg_model.specs.declared.kernel.Operand.TheVariants.{Const as Constant, Edge}
use Rattle.cg_model.specs.declared.kernel.OrderEdge.{OrderEdge}
use Rattle.cg_model.specs.Kernel.{Kernel, no_node}
use Rattle.cg_c_order.specs.Accesses.{edge}

-- the edge of an operand of node v
abbrev pub edge_of : ℕ → Operand → List OrderEdge
edge_of v (Constant c) = []
edge_of v (Edge u d init) = edge u v d ∷ []

-- the edges of the operands of node v
abbrev pub edges_into : ℕ → List Operand → List OrderEdge
edges_into v operands = flat_map (edge_of v) operands

-- the data edges of the nodes
unfoldable pub data_edges : List Node → List OrderEdge
data_edges nodes = flat_map (λ v. edges_into v (slice_index_or nodes v no_node).operands) (range_with_len 0 (length nodes))

-- the data and order edges of a kernel
abbrev pub edges_of : Kernel → List OrderEdge
edges_of K = data_edges K.nodes ++ K.order

-- an edge leads from u to v over d turns
abbrev pub HasEdge : List OrderEdge → ℕ → ℕ → ℕ → Type 0
HasEdge edges u v d = (k : ℕ) × (slice_get edges k ≡ Some (edge u v d))

-- a chain of edges leads from u to v within a turn
pub data Leads (edges : List OrderEdge) : ℕ → ℕ → Type 0 where
  at_once : {u v : ℕ} → HasEdge edges u v 0 → Leads edges u v
  by : {u w : ℕ} (v : ℕ) → HasEdge edges u v 0 → Leads edges v w → Leads edges u w

-- v is u, or a chain leads there
abbrev pub IsAhead : List OrderEdge → ℕ → ℕ → Type 0
IsAhead edges u v = (u ≡ v) ⊎ Leads edges u v

-- a chain of edges within a turn leads to one of `turning` into the next turn, and from there on one to y
pub record Turns (edges turning : List OrderEdge) (x y : ℕ) : Type 0 where
  pub last : ℕ
  pub first : ℕ
  pub turn : HasEdge turning last first 1
  pub before : IsAhead edges x last
  pub after : IsAhead edges first y

-- a chain of edges leads from x to y, with at most one of `turning`
abbrev pub LeadsOver : List OrderEdge → List OrderEdge → ℕ → ℕ → Type 0
LeadsOver edges turning x y = Leads edges x y ⊎ Turns edges turning x y

-- they join numbers below n
abbrev pub JoinBelow : ℕ → List OrderEdge → Type 0
JoinBelow n edges = (k : ℕ) (e : OrderEdge) → slice_get edges k ≡ Some e → (e.from < n) × (e.to < n)
