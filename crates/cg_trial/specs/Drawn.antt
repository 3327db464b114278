-- The random kernel: 32 nodes `v0` to `v31`, of which `v2` to `v27` are random.
use Rattle.std.specs.Prelude.{ℕ, zero, suc, ◌+◌, List, [], ◌∷◌, ◌++◌, codes, decimal, unwrap_or}
use Rattle.rand_pcg.specs.Lcg.{Lcg}
use Rattle.cg_word.specs.declared.op.Op.{Op}
use Rattle.cg_word.specs.declared.op.Op.TheVariants.{Const, Iter, Add, And, Load, Store, Output}
use Rattle.cg_word.specs.Word.{arity, op_of}
use Rattle.cg_model.specs.declared.kernel.Node.{Node}
use Rattle.cg_model.specs.declared.kernel.Operand.{Operand}
use Rattle.cg_model.specs.declared.kernel.Operand.TheVariants.{Const as Constant, Edge}
use Rattle.cg_model.specs.declared.kernel.OrderEdge.{OrderEdge}
use Rattle.cg_model.specs.Kernel.{Kernel}
use Rattle.cg_trial.specs.Words.{generator, next, rest, below, words_of, after}

-- the name of node k
abbrev pub node_name : ℕ → List ℕ
node_name k = codes "v" ++ decimal k

-- a node that names no port
abbrev pub node_of : ℕ → Op → List Operand → Node
node_of k op operands = record { name = node_name k; op = op; port = 0; operands = operands }

-- ---- random nodes

-- a random operation, whose code is 4 plus a number below 16: from add to select, all of which are defined
abbrev pub drawn_op : Lcg → Op
drawn_op g = unwrap_or (op_of (4 + below 16 g)) Add

-- a random operand of node k: the value of an earlier node, 0 to 2 iterations ago, and an initial word for each of
-- these iterations
abbrev pub drawn_operand : ℕ → Lcg → Operand
drawn_operand k g = Edge (below k g) (below 3 (rest g)) (words_of (below 3 (rest g)) (rest (rest g)))

-- the generator after an operand
abbrev pub after_operand : Lcg → Lcg
after_operand g = after (below 3 (rest g)) (rest (rest g))

-- n random operands of node k
abbrev pub drawn_operands : ℕ → ℕ → Lcg → List Operand
drawn_operands k zero g = []
drawn_operands k (suc n) g = drawn_operand k g ∷ drawn_operands k n (after_operand g)

-- the generator after n operands
abbrev pub after_operands : ℕ → Lcg → Lcg
after_operands zero g = g
after_operands (suc n) g = after_operands n (after_operand g)

-- random node k: its operation, and then its operands in order
unfoldable pub drawn_node : ℕ → Lcg → Node
drawn_node k g = node_of k (drawn_op g) (drawn_operands k (arity (drawn_op g)) (rest g))

-- the generator after a node
unfoldable pub after_node : Lcg → Lcg
after_node g = after_operands (arity (drawn_op g)) (rest g)

-- n random nodes, the first of them node k
unfoldable pub drawn_nodes : ℕ → ℕ → Lcg → List Node
drawn_nodes k zero g = []
drawn_nodes k (suc n) g = drawn_node k g ∷ drawn_nodes (k + 1) n (after_node g)

-- ---- the nodes before and after the random ones

-- the value of node u, in the same iteration
abbrev pub value_of : ℕ → Operand
value_of u = Edge u 0 []

-- the iteration number, and a random constant
abbrev pub first_nodes : Lcg → List Node
first_nodes g = node_of 0 Iter [] ∷ node_of 1 Const (Constant (next g) ∷ []) ∷ []

-- the last eight bits of `v27` are an address, from which a word is loaded, and to which `v27` is stored; the loaded
-- word is sent to port 0
abbrev pub last_nodes : List Node
last_nodes =
    node_of 28 And (value_of 27 ∷ Constant 255 ∷ [])
    ∷ node_of 29 Load (value_of 28 ∷ [])
    ∷ node_of 30 Store (value_of 28 ∷ value_of 27 ∷ [])
    ∷ node_of 31 Output (value_of 29 ∷ [])
    ∷ []

-- the load comes before the store of the same iteration, and after the store of the previous iteration
abbrev pub order_edges : List OrderEdge
order_edges = record { from = 29; to = 30; distance = 0 } ∷ record { from = 30; to = 29; distance = 1 } ∷ []

-- the kernel that a generator determines
unfoldable pub drawn_kernel : Lcg → Kernel
drawn_kernel g = record { nodes = first_nodes g ++ (drawn_nodes 2 26 (rest g) ++ last_nodes); order = order_edges }

-- the kernel of a seed
unfoldable pub trial_kernel : ℕ → Kernel
trial_kernel seed = drawn_kernel (generator seed)
