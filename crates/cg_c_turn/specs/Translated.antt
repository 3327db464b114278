-- What the translation of statements has to show.
use Rattle.std.specs.Prelude.{◌≡◌, ℕ, if◌then◌else◌, List, [], ◌++◌, Option, Some, None}
use Rattle.std.specs.Borrow.{Bor}
use Rattle.cg_c_check.specs.Rules.{is_true}
use Rattle.cg_c_check.specs.declared.program.Stmt.{Stmt as MadeStmt}
use Rattle.cg_c_check.specs.Written.{stmt_of}
use Rattle.cg_c_check.specs.Program.{Stmt}
use Rattle.cg_c_meaning.specs.Meaning.{Context, Run, give, stmt}
use Rattle.cg_c_meaning.specs.Typed.{stmt_outputs}
use Rattle.cg_c_turn.specs.Draft.{Draft, Effect}
use Rattle.cg_c_turn.specs.Stands.{ACondition, Agrees, Performs, Any, Sends}

-- a part of the program is translated, which takes words from the streams of `ports` and sends words to those of `outs`
pub record IsTranslated (before after : Draft) (run : Context → Run (Unit {0})) (ports outs : List ℕ) : Type 0 where
  pub added : List Effect
  pub performs : Performs before after added Any run ports
  pub initial : after.initial ≡ before.initial
  pub sends : Sends before after outs

-- what is done where the condition's word is w
abbrev pub branch_run : (chosen : Stmt) (other : Option Stmt) (w : ℕ) → Context → Run (Unit {0})
branch_run chosen None w x = if is_true w then stmt x chosen else give tt
branch_run chosen (Some other) w x = if is_true w then stmt x chosen else stmt x other

-- the ports of the outputs of two branches
abbrev pub branch_outputs : (chosen : Stmt) (other : Option Stmt) → List ℕ
branch_outputs chosen None = stmt_outputs chosen
branch_outputs chosen (Some other) = stmt_outputs chosen ++ stmt_outputs other

-- a statement of the code, if there is one
abbrev pub lent : Option (Bor MadeStmt) → Option Stmt
lent None = None
lent (Some s) = Some (stmt_of s.now)

-- the branches of an `if` are translated, where c is the value of the condition
pub record IsBranched (before after : Draft) (c : ℕ) (chosen : Stmt) (other : Option Stmt) : Type 0 where
  pub added : List Effect
  pub performs : (w : ℕ) → Performs before after added (λ E. Agrees ACondition (E c) w) (branch_run chosen other w) []
  pub initial : after.initial ≡ before.initial
  pub sends : Sends before after (branch_outputs chosen other)
