-- What the proofs ask of a body, beside its rules as they are tested.
use Rattle.std.specs.Prelude.{◌≡◌, ℕ, ◌+◌, ◌<◌, ◌≤◌, Bool, true, false, IsTrue, List, [], ◌∷◌, Option, Some, None, slice_get}
use Rattle.cg_word.specs.declared.op.Op.{Op}
use Rattle.cg_word.specs.declared.op.Op.TheVariants.{Const, Iter, Input, Load, Store, Output, LoadIf, StoreIf, OutputIf}
use Rattle.cg_word.specs.Word.{words, arity}
use Rattle.cg_model.specs.Limits.{last_port, most_memory}
use Rattle.cg_loop_syntax.specs.Loop.{Expr, Num, Turn, In, Scalar, Item, Two, Three, Stmt, Bind, Assign, Put, Emit, Body, extent, carry}
use Rattle.cg_loop_laws.specs.Meaning.{updated}
use Rattle.cg_loop_laws.specs.Laws.{IsInside}

-- the operations that an expression may use
abbrev pub is_word : Op → Bool
is_word Const = false
is_word Iter = false
is_word Input = false
is_word Load = false
is_word Store = false
is_word Output = false
is_word LoadIf = false
is_word StoreIf = false
is_word OutputIf = false
is_word _ = true

abbrev pub IsExpr : Expr → Type 0
IsExpr (Num w) = w < words
IsExpr Turn = Unit {0}
IsExpr (In p) = p ≤ last_port
IsExpr (Scalar x) = Unit {0}
IsExpr (Item a e) = IsExpr e
IsExpr (Two op a b) = IsTrue (is_word op) × IsExpr a × IsExpr b
IsExpr (Three op a b c) = IsTrue (is_word op) × IsExpr a × IsExpr b × IsExpr c

abbrev pub IsGuard : Option Expr → Type 0
IsGuard None = Unit {0}
IsGuard (Some e) = IsExpr e

abbrev pub IsStmt : Stmt → Type 0
IsStmt (Bind x e) = IsExpr e
IsStmt (Assign x e) = IsExpr e
IsStmt (Put a ix v g) = IsExpr ix × IsExpr v × IsGuard g
IsStmt (Emit p v g) = (p ≤ last_port) × IsExpr v × IsGuard g

abbrev pub AreStmts : List Stmt → Type 0
AreStmts [] = Unit {0}
AreStmts (s ∷ ss) = IsStmt s × AreStmts ss

-- the rules that the meaning of the kernel rests on
pub record IsBody (P : Body) : Type 0 where
  pub stmts : AreStmts P.stmts
  -- each carry is assigned, and begins with a word
  pub assigned : (x : List ℕ) (w : ℕ) → carry P.decls x ≡ Some w → (k : ℕ) × (e : Expr) × (slice_get P.stmts k ≡ Some (Assign x e))
  pub starts : (x : List ℕ) (w : ℕ) → carry P.decls x ≡ Some w → w < words
  -- arrays are low and don't meet
  pub low : (a : List ℕ) → (extent P.decls a).at + (extent P.decls a).len ≤ most_memory
  pub apart : (a b : List ℕ) (x : ℕ) → IsInside (extent P.decls a) x → IsInside (extent P.decls b) x → a ≡ b

-- each name is known where it is used, and each operation has as many operands as it takes
abbrev pub IsScoped : (List ℕ → Bool) → Expr → Type 0
IsScoped N (Num w) = Unit {0}
IsScoped N Turn = Unit {0}
IsScoped N (In p) = Unit {0}
IsScoped N (Scalar x) = IsTrue (N x)
IsScoped N (Item a e) = IsScoped N e
IsScoped N (Two op a b) = (arity op ≡ 2) × IsScoped N a × IsScoped N b
IsScoped N (Three op a b c) = (arity op ≡ 3) × IsScoped N a × IsScoped N b × IsScoped N c

abbrev pub IsScopedGuard : (List ℕ → Bool) → Option Expr → Type 0
IsScopedGuard N None = Unit {0}
IsScopedGuard N (Some e) = IsScoped N e

abbrev pub IsScopedStmt : (List ℕ → Bool) → Stmt → Type 0
IsScopedStmt N (Bind x e) = IsScoped N e
IsScopedStmt N (Assign x e) = IsScoped N e
IsScopedStmt N (Put a ix v g) = IsScoped N ix × IsScoped N v × IsScopedGuard N g
IsScopedStmt N (Emit p v g) = IsScoped N v × IsScopedGuard N g

abbrev pub known_after : (List ℕ → Bool) → Stmt → List ℕ → Bool
known_after N (Bind x e) = updated N x true
known_after N _ = N

abbrev pub AreScoped : (List ℕ → Bool) → List Stmt → Type 0
AreScoped N [] = Unit {0}
AreScoped N (s ∷ ss) = IsScopedStmt N s × AreScoped (known_after N s) ss

abbrev pub ports : List Stmt → List ℕ
ports [] = []
ports (Emit p v g ∷ ss) = p ∷ ports ss
ports (Bind x e ∷ ss) = ports ss
ports (Assign x e ∷ ss) = ports ss
ports (Put a ix v g ∷ ss) = ports ss

abbrev pub IsDistinct : List ℕ → Type 0
IsDistinct [] = Unit {0}
IsDistinct (p ∷ ps) = ((k : ℕ) → slice_get ps k ≡ Some p → ⊥) × IsDistinct ps

abbrev pub is_carry : Option ℕ → Bool
is_carry None = false
is_carry (Some w) = true

pub record IsRuled (P : Body) : Type 0 where
  pub scoped : AreScoped (λ x. is_carry (carry P.decls x)) P.stmts
  pub distinct : IsDistinct (ports P.stmts)
