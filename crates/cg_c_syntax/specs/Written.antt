-- The trees that values of the program denote.
use Rattle.std.specs.Prelude.{List, [], ◌∷◌, map, Option, Some, None}
use Rattle.cg_c_syntax.specs.declared.expression.Expr.{Expr as WrittenExpr, Row_of-Expr, end_of-Expr, more_of-Expr, Row_of-Link, end_of-Link, more_of-Link}
use Rattle.cg_c_syntax.specs.declared.expression.Expr.TheVariants as exprs
use Rattle.cg_c_syntax.specs.declared.expression.Element.{Element}
use Rattle.cg_c_syntax.specs.declared.expression.Link.{Link}
use Rattle.cg_c_syntax.specs.declared.statement.Word.{Word as WrittenWord}
use Rattle.cg_c_syntax.specs.declared.statement.Stmt.{Stmt as WrittenStmt, Row_of-Stmt, end_of-Stmt, more_of-Stmt, Held-Stmt-If-2, None', Some'}
use Rattle.cg_c_syntax.specs.declared.statement.Stmt.TheVariants as stmts
use Rattle.cg_c_syntax.specs.declared.statement.Loop.{Loop as WrittenLoop, Loop'}
use Rattle.cg_c_syntax.specs.declared.statement.Nest.{Nest as WrittenNest, Nest', Held-Nest-inner}
use Rattle.cg_c_syntax.specs.declared.statement.Nest as nests
use Rattle.cg_c_syntax.specs.declared.source.Constant.{Constant as WrittenConstant}
use Rattle.cg_c_syntax.specs.declared.source.Array.{Array as WrittenArray}
use Rattle.cg_c_syntax.specs.declared.source.Rows.{Rows as WrittenRows, Row_of-Rows, end_of-Rows, more_of-Rows}
use Rattle.cg_c_syntax.specs.declared.source.Rows.TheVariants as rows
use Rattle.cg_c_syntax.specs.declared.source.Table.{Table as WrittenTable}
use Rattle.cg_c_syntax.specs.declared.source.Global.{Global as WrittenGlobal}
use Rattle.cg_c_syntax.specs.declared.source.Global.TheVariants as globals
use Rattle.cg_c_syntax.specs.declared.source.Source.{Source as WrittenSource}
use Rattle.cg_c_syntax.specs.Tree.{Expr, Num, Access, Signed, Converted, Input, Picked, Two, Choice, Exprs, NoExprs, MoreExprs, Word, Target, Stmt, Words, Block, If, IfElse, Output, Assign, Stmts, NoStmts, MoreStmts, Loop, For, Nest, Bare, Holds, Constant, Array, Rows, Items, Inner, RowsList, NoRows, OneMore, Table, Global, Define, Enumeration, Arrays, Constants, Source}

-- ---- expressions

abbrev mutual
  pub expr_of : WrittenExpr → Expr
  expr_of (exprs.Number n) = Num n
  expr_of (exprs.Element' name shape indices) = Access name (row_exprs indices)
  expr_of (exprs.Sign' sign place p operand) = Signed sign place (expr_of operand)
  expr_of (exprs.Cast' to place p operand) = Converted to place (expr_of operand)
  expr_of (exprs.Input' place p port) = Input place (expr_of port)
  expr_of (exprs.Pick' pick place p first q second) = Picked pick place (expr_of first) (expr_of second)
  expr_of (exprs.Chain' p first shape rest) = row_linked (expr_of first) rest
  expr_of (exprs.Choice' place p condition q chosen r other) = Choice place (expr_of condition) (expr_of chosen) (expr_of other)

  pub row_exprs : {m : _} → Row_of-Expr m → Exprs
  row_exprs end_of-Expr = NoExprs
  row_exprs (more_of-Expr e rest) = MoreExprs (expr_of e) (row_exprs rest)

  pub row_linked : {m : _} → Expr → Row_of-Link m → Expr
  row_linked e end_of-Link = e
  row_linked e (more_of-Link op place operand rest) = row_linked (Two op place e (expr_of operand)) rest

-- the same over lists
abbrev pub exprs_of : List WrittenExpr → Exprs
exprs_of [] = NoExprs
exprs_of (e ∷ es) = MoreExprs (expr_of e) (exprs_of es)

-- expressions before others
abbrev pub exprs_before : List WrittenExpr → Exprs → Exprs
exprs_before [] rest = rest
exprs_before (e ∷ es) rest = MoreExprs (expr_of e) (exprs_before es rest)

abbrev pub linked : Expr → List Link → Expr
linked e [] = e
linked e (l ∷ ls) = linked (Two l.op l.place e (expr_of l.operand)) ls

-- ---- statements

abbrev pub word_of : WrittenWord → Word
word_of w = record { name = w.name; value = expr_of w.value }

abbrev pub target_of : Element → Target
target_of e = record { name = e.name; indices = exprs_of e.indices.items }

abbrev mutual
  pub stmt_of : WrittenStmt → Stmt
  stmt_of (stmts.Words signedness words) = Words signedness (map word_of words.items)
  stmt_of (stmts.Block' shape stmts) = Block (row_stmts stmts)
  stmt_of (stmts.If' condition p chosen other) = branched (expr_of condition) (stmt_of chosen) other
  stmt_of (stmts.Output port value) = Output (expr_of port) (expr_of value)
  stmt_of (stmts.Assign target op value) = Assign (target_of target) op (expr_of value)

  pub branched : Expr → Stmt → Held-Stmt-If-2 → Stmt
  branched condition chosen None' = If condition chosen
  branched condition chosen (Some' p other) = IfElse condition chosen (stmt_of other)

  pub row_stmts : {m : _} → Row_of-Stmt m → Stmts
  row_stmts end_of-Stmt = NoStmts
  row_stmts (more_of-Stmt s rest) = MoreStmts (stmt_of s) (row_stmts rest)

-- statements before others
abbrev pub before : List WrittenStmt → Stmts → Stmts
before [] rest = rest
before (s ∷ ss) rest = MoreStmts (stmt_of s) (before ss rest)

abbrev pub stmts_of : List WrittenStmt → Stmts
stmts_of ss = before ss NoStmts

-- ---- loops

abbrev pub step_of : Option WrittenExpr → Option Expr
step_of None = None
step_of (Some e) = Some (expr_of e)

abbrev mutual
  pub loop_of : WrittenLoop → Loop
  loop_of (Loop' place counter start inclusive bound step body) =
      For place (record { counter = counter; start = expr_of start; inclusive = inclusive; bound = expr_of bound; step = step_of step }) (nest_of body)

  pub nest_of : WrittenNest → Nest
  nest_of (Nest' first inner last) = nested (stmts_of first.items) inner (stmts_of last.items)

  pub nested : Stmts → Held-Nest-inner → Stmts → Nest
  nested first nests.None' last = Bare first
  nested first (nests.Some' p inner) last = Holds first (loop_of inner) last

-- ---- declarations

abbrev pub constant_of : WrittenConstant → Constant
constant_of c = record { name = c.name; value = expr_of c.value }

abbrev pub array_of : WrittenArray → Array
array_of a = record { name = a.name; dimensions = exprs_of a.dimensions.items }

abbrev mutual
  pub rows_of : WrittenRows → Rows
  rows_of (rows.Values place values) = Items place (exprs_of values.items)
  rows_of (rows.Rows' place shape rows) = Inner place (row_rows rows)

  pub row_rows : {m : _} → Row_of-Rows m → RowsList
  row_rows end_of-Rows = NoRows
  row_rows (more_of-Rows r rest) = OneMore (rows_of r) (row_rows rest)

-- the same over a list
abbrev pub rows_list : List WrittenRows → RowsList
rows_list [] = NoRows
rows_list (r ∷ rs) = OneMore (rows_of r) (rows_list rs)

-- rows before others
abbrev pub rows_before : List WrittenRows → RowsList → RowsList
rows_before [] rest = rest
rows_before (r ∷ rs) rest = OneMore (rows_of r) (rows_before rs rest)

abbrev pub table_of : WrittenTable → Table
table_of t = record { signedness = t.signedness; array = array_of t.array; rows = rows_of t.rows }

abbrev pub global_of : WrittenGlobal → Global
global_of (globals.Define c) = Define (constant_of c)
global_of (globals.Enumeration cs) = Enumeration (map constant_of cs.items)
global_of (globals.Arrays signedness arrays) = Arrays signedness (map array_of arrays.items)
global_of (globals.Table t) = Constants (table_of t)

abbrev pub source_of : WrittenSource → Source
source_of s =
    record { globals = map global_of s.globals.items; name = s.name; before = stmts_of s.before.items; outer = loop_of s.outer; after = stmts_of s.after.items }
