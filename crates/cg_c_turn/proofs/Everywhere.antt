-- What stands where not each turn passes may stand where each does.
use Rattle.std.proofs.Common.{false, true, List, [], ◌∷◌}
use Rattle.cg_c_check.specs.declared.program.Array.{Array}
use Rattle.cg_c_check.specs.Program.{Exprs, Target, TheWord, TheElement, Initial, Stmt, Words, Block, If, IfElse, Output, Assign, Stmts, NoStmts, MoreStmts, NoExprs, MoreExprs}
use Rattle.cg_c_meaning.specs.Typed.{IsTypedExprs, IsTypedTarget, AreTypedInitials, IsTypedStmt, AreTypedStmts}
use Rattle.cg_c_turn.proofs.Composing.{typed_true}

exprs_everywhere : (arrays : List Array) (es : Exprs) → IsTypedExprs arrays false es → IsTypedExprs arrays true es
unfolding IsTypedExprs
exprs_everywhere arrays NoExprs h = tt
exprs_everywhere arrays (MoreExprs e es) h = (typed_true arrays false e h.0, exprs_everywhere arrays es h.1)

target_everywhere : (arrays : List Array) (t : Target) → IsTypedTarget arrays false t → IsTypedTarget arrays true t
target_everywhere arrays (TheWord number s) h = tt
target_everywhere arrays (TheElement array place s indices) h = (h.0, h.1, exprs_everywhere arrays indices h.2)

initials_everywhere : (arrays : List Array) (is : List Initial) → AreTypedInitials arrays false is → AreTypedInitials arrays true is
initials_everywhere arrays [] h = tt
initials_everywhere arrays (i ∷ is) h = (typed_true arrays false i.value h.0, initials_everywhere arrays is h.1)

mutual
  unfolding IsTypedStmt

  pub stmt_everywhere : (arrays : List Array) (t : Stmt) → IsTypedStmt arrays false t → IsTypedStmt arrays true t
  stmt_everywhere arrays (Words initials) h = initials_everywhere arrays initials h
  stmt_everywhere arrays (Block body) h = stmts_everywhere arrays body h
  stmt_everywhere arrays (If c a) h = (typed_true arrays false c h.0, h.1)
  stmt_everywhere arrays (IfElse c a b) h = (typed_true arrays false c h.0, h.1, h.2)
  stmt_everywhere arrays (Output port e) h = (h.0, typed_true arrays false e h.1)
  stmt_everywhere arrays (Assign target op e) h = (target_everywhere arrays target h.0, typed_true arrays false e h.1)

  pub stmts_everywhere : (arrays : List Array) (ts : Stmts) → AreTypedStmts arrays false ts → AreTypedStmts arrays true ts
  stmts_everywhere arrays NoStmts h = tt
  stmts_everywhere arrays (MoreStmts t ts) h = (stmt_everywhere arrays t h.0, stmts_everywhere arrays ts h.1)
