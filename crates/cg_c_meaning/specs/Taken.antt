-- What expressions and statements change: an expression takes words from streams and changes nothing else, and each input
-- takes one word.
use Rattle.std.specs.Prelude.{◌≡◌, ℕ, ◌+◌, ◌==◌, if◌then◌else◌, Bool, List, [], ◌∷◌, Some}
use Rattle.cg_c_check.specs.declared.program.Array.{Array}
use Rattle.cg_c_check.specs.Program.{Expr, Exprs, Stmt, Stmts}
use Rattle.cg_c_meaning.specs.Meaning.{State, Context, value, values, stmt, stmts}
use Rattle.cg_c_meaning.specs.Typed.{IsTypedExpr, IsTypedExprs, IsTypedStmt, AreTypedStmts, inputs, inputs_of, stmt_inputs, stmts_inputs}

-- how often a port stands among these
abbrev pub times : (port : ℕ) → List ℕ → ℕ
times port [] = 0
times port (p ∷ ps) = (if p == port then 1 else 0) + times port ps

-- a word was taken from each of these ports
abbrev pub Takes : (before after : State) → List ℕ → Type 0
Takes before after ports = (port : ℕ) → after.taken port ≡ before.taken port + times port ports

-- nothing else changed
pub record TakesAlone (before after : State) (ports : List ℕ) : Type 0 where
  pub words : (number : ℕ) → after.words number ≡ before.words number
  pub memory : after.memory ≡ before.memory
  pub outputs : (port : ℕ) → after.outputs port ≡ before.outputs port
  pub taken : Takes before after ports

abbrev pub ExpressionsTake : Type 0
ExpressionsTake = (arrays : List Array) (each : Bool) (x : Context) (e : Expr) (before after : State) (w : ℕ) →
    IsTypedExpr arrays each e → value x e before ≡ Some (w, after) → TakesAlone before after (inputs e)

abbrev pub IndicesTake : Type 0
IndicesTake = (arrays : List Array) (each : Bool) (x : Context) (es : Exprs) (before after : State) (ws : List ℕ) →
    IsTypedExprs arrays each es → values x es before ≡ Some (ws, after) → TakesAlone before after (inputs_of es)

abbrev pub StatementsTake : Type 0
StatementsTake = (arrays : List Array) (each : Bool) (x : Context) (s : Stmt) (before after : State) (u : Unit {0}) →
    IsTypedStmt arrays each s → stmt x s before ≡ Some (u, after) → Takes before after (stmt_inputs s)

abbrev pub BlocksTake : Type 0
BlocksTake = (arrays : List Array) (each : Bool) (x : Context) (ss : Stmts) (before after : State) (u : Unit {0}) →
    AreTypedStmts arrays each ss → stmts x ss before ≡ Some (u, after) → Takes before after (stmts_inputs ss)
