-- The typed programs that values of the program denote.
use Rattle.std.specs.Prelude.{List, [], ◌∷◌, map}
use Rattle.cg_c_check.specs.declared.program.Expr.{Expr as MadeExpr, Row_of-Expr, end_of-Expr, more_of-Expr, Row_of-Link, end_of-Link, more_of-Link}
use Rattle.cg_c_check.specs.declared.program.Expr.TheVariants as exprs
use Rattle.cg_c_check.specs.declared.program.Link.{Link}
use Rattle.cg_c_check.specs.declared.program.Target.{Target as MadeTarget}
use Rattle.cg_c_check.specs.declared.program.Target.TheVariants as targets
use Rattle.cg_c_check.specs.declared.program.Initial.{Initial as MadeInitial}
use Rattle.cg_c_check.specs.declared.program.Stmt.{Stmt as MadeStmt, Row_of-Stmt, end_of-Stmt, more_of-Stmt, Held-Stmt-If-2, None', Some'}
use Rattle.cg_c_check.specs.declared.program.Stmt.TheVariants as stmts
use Rattle.cg_c_check.specs.declared.program.Level.{Level as MadeLevel}
use Rattle.cg_c_check.specs.declared.program.Program.{Program as MadeProgram}
use Rattle.cg_c_check.specs.Program.{Expr, Literal, Word, Counter, Element, Signed, Converted, Input, Picked, Two, Choice, Exprs, NoExprs, MoreExprs, Target, TheWord, TheElement, Initial, Stmt, Words, Block, If, IfElse, Output, Assign, Stmts, NoStmts, MoreStmts, Level, Program}

-- ---- expressions

abbrev mutual
  pub expr_of : MadeExpr → Expr
  expr_of (exprs.Literal c) = Literal c
  expr_of (exprs.Word number signedness) = Word number signedness
  expr_of (exprs.Counter depth) = Counter depth
  expr_of (exprs.Element' array place signedness shape indices) = Element array place signedness (row_exprs indices)
  expr_of (exprs.Sign' sign signedness p operand) = Signed sign signedness (expr_of operand)
  expr_of (exprs.Cast' to p operand) = Converted to (expr_of operand)
  expr_of (exprs.Input port) = Input port
  expr_of (exprs.Pick' pick p first q second) = Picked pick (expr_of first) (expr_of second)
  expr_of (exprs.Chain' p first shape rest) = row_linked (expr_of first) rest
  expr_of (exprs.Choice' signedness p condition q chosen r other) = Choice signedness (expr_of condition) (expr_of chosen) (expr_of other)

  pub row_exprs : {m : _} → Row_of-Expr m → Exprs
  row_exprs end_of-Expr = NoExprs
  row_exprs (more_of-Expr e rest) = MoreExprs (expr_of e) (row_exprs rest)

  pub row_linked : {m : _} → Expr → Row_of-Link m → Expr
  row_linked e end_of-Link = e
  row_linked e (more_of-Link op reading operand rest) = row_linked (Two op reading e (expr_of operand)) rest

-- the same over lists
abbrev pub exprs_of : List MadeExpr → Exprs
exprs_of [] = NoExprs
exprs_of (e ∷ es) = MoreExprs (expr_of e) (exprs_of es)

abbrev pub linked : Expr → List Link → Expr
linked e [] = e
linked e (l ∷ ls) = linked (Two l.op l.reading e (expr_of l.operand)) ls

-- ---- statements

abbrev pub target_of : MadeTarget → Target
target_of (targets.Word number signedness) = TheWord number signedness
target_of (targets.Element e) = TheElement e.array e.place e.signedness (exprs_of e.indices.items)

abbrev pub initial_of : MadeInitial → Initial
initial_of i = record { number = i.number; value = expr_of i.value }

abbrev mutual
  pub stmt_of : MadeStmt → Stmt
  stmt_of (stmts.Words words) = Words (map initial_of words.items)
  stmt_of (stmts.Block' shape stmts) = Block (row_stmts stmts)
  stmt_of (stmts.If' condition p chosen other) = branched (expr_of condition) (stmt_of chosen) other
  stmt_of (stmts.Output port value) = Output port (expr_of value)
  stmt_of (stmts.Assign target op value) = Assign (target_of target) op (expr_of value)

  pub branched : Expr → Stmt → Held-Stmt-If-2 → Stmt
  branched condition chosen None' = If condition chosen
  branched condition chosen (Some' p other) = IfElse condition chosen (stmt_of other)

  pub row_stmts : {m : _} → Row_of-Stmt m → Stmts
  row_stmts end_of-Stmt = NoStmts
  row_stmts (more_of-Stmt s rest) = MoreStmts (stmt_of s) (row_stmts rest)

-- the same over a list
abbrev pub stmts_of : List MadeStmt → Stmts
stmts_of [] = NoStmts
stmts_of (s ∷ ss) = MoreStmts (stmt_of s) (stmts_of ss)

-- ---- programs

abbrev pub level_of : MadeLevel → Level
level_of l = record { before = stmts_of l.before.items; range = l.range; after = stmts_of l.after.items }

abbrev pub program_of : MadeProgram → Program
program_of p = record { name = p.name; arrays = p.arrays.items; words = p.words.items; levels = map level_of p.levels.items; body = stmts_of p.body.items }
