-- The ports of the outputs of a typed program are below 16.
use Rattle.std.proofs.Common.{ℕ, Bool, true, false, ◌<◌, List, [], ◌∷◌, ◌++◌, arith, inl, inr, subst}
use Rattle.std.proofs.lemmas.List.Elements.{Contains-append_cases}
use Rattle.cg_c_check.specs.declared.program.Array.{Array}
use Rattle.cg_c_check.specs.Program.{Stmt, Words, Block, If, IfElse, Output, Assign, Stmts, NoStmts, MoreStmts, Level}
use Rattle.cg_c_meaning.specs.Typed.{AreTypedLevels, AreTypedStmts, IsTypedStmt, nest_outputs, stmt_outputs, stmts_outputs}
use Rattle.cg_c_turn.specs.Stands.{AreBelow}
use Rattle.cg_c_turn.proofs.Growing.{contains_one}

below_none : AreBelow 16 []
below_none v c = absurd (omega (arith, c.1))

below_both : (p q : List ℕ) → AreBelow 16 p → AreBelow 16 q → AreBelow 16 (p ++ q)
below_both p q h k v c =
    elim (Contains-append_cases p q v c) [
      | inl a ↦ h v a
      | inr b ↦ k v b
    ]

mutual
  unfolding IsTypedStmt stmt_outputs

  stmt_below : (arrays : List Array) (each : Bool) (s : Stmt) → IsTypedStmt arrays each s → AreBelow 16 (stmt_outputs s)
  stmt_below arrays each (Words initials) h = below_none
  stmt_below arrays each (Block body) h = stmts_below arrays each body h
  stmt_below arrays each (If c a) h = stmt_below arrays _ a h.1
  stmt_below arrays each (IfElse c a b) h = below_both (stmt_outputs a) (stmt_outputs b) (stmt_below arrays _ a h.1) (stmt_below arrays _ b h.2)
  stmt_below arrays each (Output port e) h = λ v c. subst (λ z. z < 16) (contains_one port v c) h.0
  stmt_below arrays each (Assign target op e) h = below_none

  stmts_below : (arrays : List Array) (each : Bool) (ss : Stmts) → AreTypedStmts arrays each ss → AreBelow 16 (stmts_outputs ss)
  stmts_below arrays each NoStmts h = below_none
  stmts_below arrays each (MoreStmts s ss) h = below_both (stmt_outputs s) (stmts_outputs ss) (stmt_below arrays each s h.0) (stmts_below arrays each ss h.1)

pub nest_below : (arrays : List Array) (levels : List Level) (body : Stmts) → AreTypedLevels arrays levels → AreTypedStmts arrays true body → AreBelow 16 (nest_outputs levels body)
nest_below arrays [] body h k = stmts_below arrays true body k
nest_below arrays (l ∷ ls) body h k =
    below_both (stmts_outputs l.before ++ nest_outputs ls body) (stmts_outputs l.after)
    (below_both (stmts_outputs l.before) (nest_outputs ls body) (stmts_below arrays false l.before h.0) (nest_below arrays ls body h.2 k))
    (stmts_below arrays false l.after h.1)
