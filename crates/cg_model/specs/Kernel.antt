-- Kernels: the body of a loop as a graph of operations. Its nodes are listed in program order; a data edge of distance
-- d carries the source's value of d turns ago, and an order edge only requires that one node comes before another.
use Rattle.std.specs.Prelude.{◌≡◌, ℕ, ◌<◌, ◌≤◌, true, false, List, [], length, Some, slice_get, slice_index, slice_index_or}
use Rattle.cg_word.specs.declared.op.Op.TheVariants.{Const}
use Rattle.cg_word.specs.Word.{arity, words, has_value, has_port, is_output}
use Rattle.cg_model.specs.Names.{IsName}
use Rattle.cg_model.specs.Limits.{last_port, longest_node_name, most_distance, most_nodes, most_order_distance, most_order_edges}
pub use Rattle.cg_model.specs.declared.kernel.Operand.{Operand}
pub use Rattle.cg_model.specs.declared.kernel.Operand.TheVariants.{Const as Constant, Edge}
pub use Rattle.cg_model.specs.declared.kernel.Node.{Node}
pub use Rattle.cg_model.specs.declared.kernel.OrderEdge.{OrderEdge}

-- nodes and order edges by number
pub record Kernel : Type 0 where
  pub nodes : List Node
  pub order : List OrderEdge

-- the number of nodes
abbrev pub size : Kernel → ℕ
size K = length K.nodes

-- the value of `node` past the last node: a node without operands
abbrev pub no_node : Node
no_node = record { name = []; op = Const; port = 0; operands = [] }

-- node v
abbrev pub node : Kernel → ℕ → Node
node K v = slice_index_or K.nodes v no_node

-- operand number p of node v is o
abbrev pub HasOperand : Kernel → ℕ → ℕ → Operand → Type 0
HasOperand K v p o = slice_get (node K v).operands p ≡ Some o

-- order edge number e goes from u to v over d turns
abbrev pub HasOrder : Kernel → ℕ → ℕ → ℕ → ℕ → Type 0
HasOrder K e u v d = slice_get K.order e ≡ Some (record { from = u; to = v; distance = d })

-- what the turns need: the sources of data edges are nodes (K9), those of distance 0 are earlier nodes (K11), and
-- constants are words
pub record IsWired (K : Kernel) : Type 0 where
  pub sources : (v p u d : ℕ) (init : List ℕ) → v < size K → HasOperand K v p (Edge u d init) →
      u < size K
  pub forward : (v p u : ℕ) (init : List ℕ) → v < size K → HasOperand K v p (Edge u 0 init) →
      u < v
  pub constants : (v p c : ℕ) → v < size K → HasOperand K v p (Constant c) → c < words

-- at most 4,096 order edges (K4) join nodes (K9), within a turn an earlier to a later one (K11), over at most 255 turns
-- (K12)
pub record IsOrder (K : Kernel) : Type 0 where
  pub few : length K.order ≤ most_order_edges
  pub known : (e u v d : ℕ) → HasOrder K e u v d → (u < size K) × (v < size K)
  pub forward : (e u v : ℕ) → HasOrder K e u v 0 → u < v
  pub near : (e u v d : ℕ) → HasOrder K e u v d → d ≤ most_order_distance

-- each node has a name of at most 32 characters (K5) that no other node has (K6)
pub record IsNamed (K : Kernel) : Type 0 where
  pub names : (v : ℕ) → v < size K → IsName longest_node_name (node K v).name
  pub apart : (v w : ℕ) → v < size K → w < size K →
      (node K v).name ≡ (node K w).name → v ≡ w

-- a valid kernel: none of the faults K4 to K16 applies
pub record IsKernel (K : Kernel) : Type 0 where
  -- K4
  pub few : size K ≤ most_nodes
  pub named : IsNamed K
  pub wired : IsWired K
  pub order : IsOrder K
  -- K8: the number of operands of each node is its operation's arity
  pub arities : (v : ℕ) → v < size K → length (node K v).operands ≡ arity (node K v).op
  -- K10: the source of a data edge has a value
  pub valued : (v p u d : ℕ) (init : List ℕ) → v < size K → HasOperand K v p (Edge u d init) →
      has_value (node K u).op ≡ true
  -- K12, K13: a data edge spans at most 4 turns, and has an initial word for each of them
  pub near : (v p u d : ℕ) (init : List ℕ) → v < size K → HasOperand K v p (Edge u d init) →
      d ≤ most_distance
  pub inits : (v p u d : ℕ) (init : List ℕ) → v < size K → HasOperand K v p (Edge u d init) →
      length init ≡ d
  pub init_words : (v p u d k : ℕ) (init : List ℕ) → v < size K → HasOperand K v p (Edge u d init) →
      slice_index init k < words
  -- K14: a node has at most one constant operand
  pub one_constant : (v p q a b : ℕ) → v < size K →
      HasOperand K v p (Constant a) → HasOperand K v q (Constant b) → p ≡ q
  -- K15: ports are 0 to 15, and 0 where the operation names none
  pub ports : (v : ℕ) → v < size K → (node K v).port ≤ last_port
  pub no_ports : (v : ℕ) → v < size K → has_port (node K v).op ≡ false → (node K v).port ≡ 0
  -- K16: no two outputs, guarded or not, go to one port
  pub one_output : (v w : ℕ) → v < size K → w < size K →
      is_output (node K v).op ≡ true → is_output (node K w).op ≡ true →
      (node K v).port ≡ (node K w).port → v ≡ w
