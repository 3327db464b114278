-- The kernel of a loop body. The nodes are numbered from a given number on; an environment has the operand of each
-- name.
use Rattle.std.specs.Prelude.{ℕ, ◌+◌, bytes_eq, if◌then◌else◌, Bool, true, false, ◌||◌, List, [], ◌∷◌, ◌++◌, Option, Some, None, filter, codes, decimal}
use Rattle.std.specs.List.{flat_map}
use Rattle.cg_word.specs.declared.op.Op.{Op}
use Rattle.cg_word.specs.declared.op.Op.TheVariants as ops
use Rattle.cg_model.specs.declared.kernel.Operand.{Operand}
use Rattle.cg_model.specs.declared.kernel.Operand.TheVariants.{Const as Constant, Edge}
use Rattle.cg_model.specs.declared.kernel.Node.{Node}
use Rattle.cg_model.specs.declared.kernel.OrderEdge.{OrderEdge}
use Rattle.cg_model.specs.Kernel.{Kernel}
use Rattle.cg_loop_syntax.specs.declared.body.Decl.{Decl}
use Rattle.cg_loop_syntax.specs.declared.body.Decl.TheVariants.{Array, Carry}
use Rattle.cg_loop_syntax.specs.Loop.{Expr, Num, Turn, In, Scalar, Item, Two, Three, Stmt, Bind, Assign, Put, Emit, Body, Extent, extent, carry}
use Rattle.cg_loop_laws.specs.Meaning.{updated}

abbrev pub Env : Type 0
Env = List ℕ → Operand

-- n0, n1, ..
abbrev pub node_name : ℕ → List ℕ
node_name at = codes "n" ++ decimal at

-- the node number `at`: of an operation without a port, and with one
abbrev pub plain : ℕ → Op → List Operand → Node
plain at op operands = record { name = node_name at; op = op; port = 0; operands = operands }

abbrev pub ported : ℕ → Op → ℕ → List Operand → Node
ported at op port operands = record { name = node_name at; op = op; port = port; operands = operands }

-- the value of node u in this iteration
abbrev pub here : ℕ → Operand
here u = Edge u 0 []

-- ---- expressions

-- the number of nodes of an expression
abbrev pub cost : Expr → ℕ
cost (Num w) = 1
cost Turn = 1
cost (In p) = 1
cost (Scalar x) = 0
cost (Item a e) = cost e + 3
cost (Two op a b) = cost a + cost b + 1
cost (Three op a b c) = cost a + cost b + cost c + 1

-- the operand that holds the value
abbrev pub result : Env → ℕ → Expr → Operand
result V at (Num w) = here at
result V at Turn = here at
result V at (In p) = here at
result V at (Scalar x) = V x
result V at (Item a e) = here (at + cost e + 2)
result V at (Two op a b) = here (at + cost a + cost b)
result V at (Three op a b c) = here (at + cost a + cost b + cost c)

-- an array's word: whether the index is inside, the address, the load
abbrev pub item_code : Extent → ℕ → Operand → List Node
item_code r p ix = plain p ops.Ltu (ix ∷ Constant r.len ∷ []) ∷ plain (p + 1) ops.Add (ix ∷ Constant r.at ∷ []) ∷ plain (p + 2) ops.LoadIf (here p ∷ here (p + 1) ∷ []) ∷ []

-- the operands first, from left to right
abbrev pub code : (List ℕ → Extent) → Env → ℕ → Expr → List Node
code A V at (Num w) = plain at ops.Const (Constant w ∷ []) ∷ []
code A V at Turn = plain at ops.Iter [] ∷ []
code A V at (In p) = ported at ops.Input p [] ∷ []
code A V at (Scalar x) = []
code A V at (Item a e) = code A V at e ++ item_code (A a) (at + cost e) (result V at e)
code A V at (Two op a b) =
    code A V at a ++ (code A V (at + cost a) b ++ plain (at + cost a + cost b) op (result V at a ∷ result V (at + cost a) b ∷ []) ∷ [])
code A V at (Three op a b c) =
    code A V at a ++ (code A V (at + cost a) b ++ (code A V (at + cost a + cost b) c
    ++ plain (at + cost a + cost b + cost c) op (result V at a ∷ result V (at + cost a) b ∷ result V (at + cost a + cost b) c ∷ []) ∷ []))

-- ---- statements

-- a value with a node of its own: that of a name is copied
abbrev pub own_cost : Expr → ℕ
own_cost (Scalar x) = 1
own_cost e = cost e

abbrev pub own_node : ℕ → Expr → ℕ
own_node at (Scalar x) = at
own_node at (Item a e) = at + cost e + 2
own_node at (Two op a b) = at + cost a + cost b
own_node at (Three op a b c) = at + cost a + cost b + cost c
own_node at _ = at

abbrev pub own_code : (List ℕ → Extent) → Env → ℕ → Expr → List Node
own_code A V at (Scalar x) = plain at ops.Const (V x ∷ []) ∷ []
own_code A V at e = code A V at e

-- a store without a guard, and with one
abbrev pub put_code : Extent → ℕ → Operand → Operand → List Node
put_code r p ix v =
    plain p ops.Ltu (ix ∷ Constant r.len ∷ []) ∷ plain (p + 1) ops.Add (ix ∷ Constant r.at ∷ []) ∷ plain (p + 2) ops.StoreIf (here p ∷ here (p + 1) ∷ v ∷ []) ∷ []

abbrev pub put_if_code : Extent → ℕ → Operand → Operand → Operand → List Node
put_if_code r p ix v g =
    plain p ops.Ltu (ix ∷ Constant r.len ∷ []) ∷ plain (p + 1) ops.Add (ix ∷ Constant r.at ∷ [])
    ∷ plain (p + 2) ops.Ne (g ∷ Constant 0 ∷ []) ∷ plain (p + 3) ops.And (here p ∷ here (p + 2) ∷ [])
    ∷ plain (p + 4) ops.StoreIf (here (p + 3) ∷ here (p + 1) ∷ v ∷ []) ∷ []

abbrev pub stmt_cost : Stmt → ℕ
stmt_cost (Bind x e) = own_cost e
stmt_cost (Assign x e) = own_cost e
stmt_cost (Put a ix v None) = cost ix + cost v + 3
stmt_cost (Put a ix v (Some g)) = cost ix + cost v + cost g + 5
stmt_cost (Emit p v None) = cost v + 1
stmt_cost (Emit p v (Some g)) = cost v + cost g + 1

abbrev pub stmt_env : Env → ℕ → Stmt → Env
stmt_env V at (Bind x e) = updated V x (here (own_node at e))
stmt_env V at (Assign x e) = updated V x (here (own_node at e))
stmt_env V at (Put a ix v g) = V
stmt_env V at (Emit p v g) = V

abbrev pub stmt_code : (List ℕ → Extent) → Env → ℕ → Stmt → List Node
stmt_code A V at (Bind x e) = own_code A V at e
stmt_code A V at (Assign x e) = own_code A V at e
stmt_code A V at (Put a ix v None) = code A V at ix ++ (code A V (at + cost ix) v ++ put_code (A a) (at + cost ix + cost v) (result V at ix) (result V (at + cost ix) v))
stmt_code A V at (Put a ix v (Some g)) =
    code A V at ix ++ (code A V (at + cost ix) v ++ (code A V (at + cost ix + cost v) g
    ++ put_if_code (A a) (at + cost ix + cost v + cost g) (result V at ix) (result V (at + cost ix) v) (result V (at + cost ix + cost v) g)))
stmt_code A V at (Emit p v None) = code A V at v ++ ported (at + cost v) ops.Output p (result V at v ∷ []) ∷ []
stmt_code A V at (Emit p v (Some g)) =
    code A V at v ++ (code A V (at + cost v) g ++ ported (at + cost v + cost g) ops.OutputIf p (result V (at + cost v) g ∷ result V at v ∷ []) ∷ [])

abbrev pub body_cost : List Stmt → ℕ
body_cost [] = 0
body_cost (s ∷ ss) = stmt_cost s + body_cost ss

abbrev pub body_env : Env → ℕ → List Stmt → Env
body_env V at [] = V
body_env V at (s ∷ ss) = body_env (stmt_env V at s) (at + stmt_cost s) ss

abbrev pub body_code : (List ℕ → Extent) → Env → ℕ → List Stmt → List Node
body_code A V at [] = []
body_code A V at (s ∷ ss) = stmt_code A V at s ++ body_code A (stmt_env V at s) (at + stmt_cost s) ss

-- ---- carries

abbrev pub source_of : Operand → ℕ
source_of (Constant w) = 0
source_of (Edge u d init) = u

-- the node of the value that a name has at the end of an iteration
abbrev pub ends : List Stmt → List ℕ → ℕ
ends ss x = source_of (body_env (λ y. Constant 0) 0 ss x)

-- before its assignment a carry is the value at the end of the iteration before
abbrev pub carried : ℕ → Option ℕ → Operand
carried u None = Constant 0
carried u (Some w) = Edge u 1 (w ∷ [])

abbrev pub first_env : Body → Env
first_env P x = carried (ends P.stmts x) (carry P.decls x)

-- ---- order edges

-- accesses to arrays, in order
pub record Access : Type 0 where
  pub node : ℕ
  pub array : List ℕ
  pub writes : Bool

abbrev pub reads : ℕ → Expr → List Access
reads at (Item a e) = reads at e ++ record { node = at + cost e + 2; array = a; writes = false } ∷ []
reads at (Two op a b) = reads at a ++ reads (at + cost a) b
reads at (Three op a b c) = reads at a ++ (reads (at + cost a) b ++ reads (at + cost a + cost b) c)
reads at _ = []

abbrev pub stmt_accesses : ℕ → Stmt → List Access
stmt_accesses at (Bind x e) = reads at e
stmt_accesses at (Assign x e) = reads at e
stmt_accesses at (Put a ix v None) = reads at ix ++ (reads (at + cost ix) v ++ record { node = at + cost ix + cost v + 2; array = a; writes = true } ∷ [])
stmt_accesses at (Put a ix v (Some g)) =
    reads at ix ++ (reads (at + cost ix) v ++ (reads (at + cost ix + cost v) g ++ record { node = at + cost ix + cost v + cost g + 4; array = a; writes = true } ∷ []))
stmt_accesses at (Emit p v None) = reads at v
stmt_accesses at (Emit p v (Some g)) = reads at v ++ reads (at + cost v) g

abbrev pub accesses : ℕ → List Stmt → List Access
accesses at [] = []
accesses at (s ∷ ss) = stmt_accesses at s ++ accesses (at + stmt_cost s) ss

-- one before the other in the same iteration, the other before the one in the next
abbrev pub pair_edges : Access → Access → List OrderEdge
pair_edges u v =
    if u.writes || v.writes
    then record { from = u.node; to = v.node; distance = 0 } ∷ record { from = v.node; to = u.node; distance = 1 } ∷ []
    else []

abbrev pub edges_among : List Access → List OrderEdge
edges_among [] = []
edges_among (u ∷ us) = flat_map (pair_edges u) us ++ edges_among us

abbrev pub decl_edges : List Access → Decl → List OrderEdge
decl_edges us (Array x at len) = edges_among (filter (λ u. bytes_eq u.array x) us)
decl_edges us (Carry x w) = []

abbrev pub loop_kernel_of : Body → Kernel
loop_kernel_of P =
    record {
      nodes = body_code (extent P.decls) (first_env P) 0 P.stmts;
      order = flat_map (decl_edges (accesses 0 P.stmts)) P.decls;
    }
