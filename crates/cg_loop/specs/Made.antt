-- The nodes and accesses that are made of a body.
use Rattle.std.specs.Prelude.{◌≡◌, ℕ, ◌+◌, List, [], ◌∷◌, ◌++◌, length, Option, Some, None}
use Rattle.std.specs.Option.{option_map}
use Rattle.cg_word.specs.declared.op.Op.TheVariants as ops
use Rattle.cg_model.specs.declared.kernel.Operand.{Operand}
use Rattle.cg_model.specs.declared.kernel.Operand.TheVariants.{Const as Constant}
use Rattle.cg_model.specs.declared.kernel.Node.{Node}
use Rattle.cg_loop_syntax.specs.Loop.{Expr, Extent, Stmt, extent}
use Rattle.cg_loop_laws.specs.Translate.{Access, Env, here, plain, code, cost, own_code, own_cost, put_code, put_if_code, reads, result, stmt_accesses, stmt_code, stmt_cost}
use Rattle.cg_loop.specs.Costs.{guard_cost}
use Rattle.cg_loop.specs.Known.{env_in, operand_of}
use Rattle.cg_loop.specs.declared.names.Value.{Value}
use Rattle.cg_loop.specs.declared.scope.Scope.{Scope}
use Rattle.cg_loop.specs.declared.code.Access.{Access as WrittenAccess}

-- nodes, and the accesses to arrays among them
pub record Made : Type 0 where
  pub nodes : List Node
  pub accesses : List Access

abbrev pub access_of : WrittenAccess → Access
access_of a = record { node = a.node; array = a.array.now; writes = a.writes }

-- after `old` comes the code of an expression, which has the value `v`
pub record Computes (s : Scope) (old new : Made) (e : Expr) (v : Value) : Type 0 where
  pub nodes : new.nodes ≡ old.nodes ++ code (extent s.decls.now) (env_in s) (length old.nodes) e
  pub accesses : new.accesses ≡ old.accesses ++ reads (length old.nodes) e
  pub size : length new.nodes ≡ length old.nodes + cost e
  pub value : operand_of v ≡ result (env_in s) (length old.nodes) e

-- ---- statements

-- a value with a node of its own
pub record Owns (s : Scope) (old new : Made) (e : Expr) : Type 0 where
  pub nodes : new.nodes ≡ old.nodes ++ own_code (extent s.decls.now) (env_in s) (length old.nodes) e
  pub accesses : new.accesses ≡ old.accesses ++ reads (length old.nodes) e
  pub size : length new.nodes ≡ length old.nodes + own_cost e

-- a guard
abbrev pub guard_code : (List ℕ → Extent) → Env → ℕ → Option Expr → List Node
guard_code A V at None = []
guard_code A V at (Some g) = code A V at g

abbrev pub guard_reads : ℕ → Option Expr → List Access
guard_reads at None = []
guard_reads at (Some g) = reads at g

abbrev pub guard_result : Env → ℕ → Option Expr → Option Operand
guard_result V at None = None
guard_result V at (Some g) = Some (result V at g)

pub record Guards (s : Scope) (old new : Made) (g : Option Expr) (v : Option Value) : Type 0 where
  pub nodes : new.nodes ≡ old.nodes ++ guard_code (extent s.decls.now) (env_in s) (length old.nodes) g
  pub accesses : new.accesses ≡ old.accesses ++ guard_reads (length old.nodes) g
  pub size : length new.nodes ≡ length old.nodes + guard_cost g
  pub value : option_map operand_of v ≡ guard_result (env_in s) (length old.nodes) g

-- a store with a guard or without
abbrev pub store_code : Extent → ℕ → Operand → Operand → Option Operand → List Node
store_code r p ix v None = put_code r p ix v
store_code r p ix v (Some g) = put_if_code r p ix v g

abbrev pub allowed_cost : {A : Type 0} → Option A → ℕ
allowed_cost None = 0
allowed_cost (Some g) = 2

abbrev pub store_cost : {A : Type 0} → Option A → ℕ
store_cost g = allowed_cost g + 3

-- after `old` comes the code of a statement
pub record Executes (s : Scope) (old new : Made) (st : Stmt) : Type 0 where
  pub nodes : new.nodes ≡ old.nodes ++ stmt_code (extent s.decls.now) (env_in s) (length old.nodes) st
  pub accesses : new.accesses ≡ old.accesses ++ stmt_accesses (length old.nodes) st
  pub size : length new.nodes ≡ length old.nodes + stmt_cost st

-- whether a store takes effect, where `inside` says whether its index is inside the array
abbrev pub allowed_nodes : ℕ → Operand → Option Operand → List Node
allowed_nodes p inside None = []
allowed_nodes p inside (Some g) = plain p ops.Ne (g ∷ Constant 0 ∷ []) ∷ plain (p + 1) ops.And (inside ∷ here p ∷ []) ∷ []

abbrev pub allowed_value : ℕ → Operand → Option Operand → Operand
allowed_value p inside None = inside
allowed_value p inside (Some g) = here (p + 1)
