-- The values of the names of a body.
use Rattle.std.specs.Prelude.{ℕ, ◌+◌, List, [], ◌∷◌, ◌++◌, map, reverse}
use Rattle.std.specs.List.{flat_map}
use Rattle.cg_model.specs.declared.kernel.Operand.{Operand}
use Rattle.cg_model.specs.declared.kernel.Operand.TheVariants.{Const as Constant, Edge}
use Rattle.cg_loop_syntax.specs.declared.body.Decl.{Decl}
use Rattle.cg_loop_syntax.specs.declared.body.Decl.TheVariants.{Array, Carry}
use Rattle.cg_loop_syntax.specs.Loop.{Stmt, Bind, Assign, Put, Emit, Extent}
use Rattle.cg_loop_laws.specs.Meaning.{updated}
use Rattle.cg_loop_laws.specs.Translate.{Env, here, own_node, stmt_cost, source_of}
use Rattle.cg_loop.specs.declared.names.Named.{Named}
use Rattle.cg_loop.specs.declared.names.Value.{Value}
use Rattle.cg_loop.specs.declared.names.Value.TheVariants as values
use Rattle.cg_loop.specs.declared.scope.Extent.{Extent as WrittenExtent}
use Rattle.cg_loop.specs.declared.scope.Scope.{Scope}

-- a value as an operand
abbrev pub operand_of : Value → Operand
operand_of (values.Const w) = Constant w
operand_of (values.Node u) = here u
operand_of (values.Carried u start) = Edge u 1 (start ∷ [])

-- a name, and its value
pub record Known : Type 0 where
  pub name : List ℕ
  pub operand : Operand

abbrev pub known_of : Named → Known
known_of n = record { name = n.name.now; operand = operand_of n.value }

-- the values of names after these: the last of a name counts
abbrev pub env_from : Env → List Known → Env
env_from V [] = V
env_from V (k ∷ ks) = env_from (updated V k.name k.operand) ks

abbrev pub env_of : List Known → Env
env_of ks = env_from (λ y. Constant 0) ks

-- the bindings of statements, the first of which begins at `at`
abbrev pub stmt_bindings : ℕ → Stmt → List Known
stmt_bindings at (Bind x e) = record { name = x; operand = here (own_node at e) } ∷ []
stmt_bindings at (Assign x e) = record { name = x; operand = here (own_node at e) } ∷ []
stmt_bindings at (Put a ix v g) = []
stmt_bindings at (Emit p v g) = []

abbrev pub bindings : ℕ → List Stmt → List Known
bindings at [] = []
bindings at (s ∷ ss) = stmt_bindings at s ++ bindings (at + stmt_cost s) ss

-- the values of the carries before the first statement, where the body binds `bs`
abbrev pub decl_known : List Known → Decl → List Known
decl_known bs (Array x at len) = []
decl_known bs (Carry x start) = record { name = x; operand = Edge (source_of (env_of bs x)) 1 (start ∷ []) } ∷ []

-- the first of a name counts
abbrev pub carries : List Known → List Decl → List Known
carries bs ds = reverse (flat_map (decl_known bs) ds)

-- ---- at a point of a loop

abbrev pub env_in : Scope → Env
env_in s = env_of (map known_of s.known.now)

abbrev pub extent_from : WrittenExtent → Extent
extent_from r = record { at = r.at; len = r.len }
