-- Statements, by the lists that the types hold.
use Rattle.std.proofs.Common.{◌≡◌, ℕ, Bool, List, [], ◌∷◌, Option, refl, ap, rules, Vec, Global}
use Rattle.cg_c_syntax.specs.Tree.{MoreStmts, Block, For}
use Rattle.cg_c_syntax.specs.declared.statement.Stmt.{Row_of-Stmt, end_of-Stmt, more_of-Stmt, items-the_row-Stmt, Block as WrittenBlock, the_lemmas}
use Rattle.cg_c_syntax.specs.declared.statement.Stmt.{Stmt as WrittenStmt}
use Rattle.cg_c_syntax.specs.Written.{stmt_of, stmts_of, row_stmts, rows_of, rows_list, row_rows}
use Rattle.cg_c_syntax.specs.Tree.{Inner, OneMore}
use Rattle.cg_c_syntax.specs.declared.source.Rows.{Row_of-Rows, end_of-Rows, more_of-Rows, items-the_row-Rows}

pub row_stmts_is : {m : _} (row : Row_of-Stmt m) → row_stmts row ≡ stmts_of (items-the_row-Stmt m row)
row_stmts_is end_of-Stmt = refl
row_stmts_is (more_of-Stmt s rest) = ap (MoreStmts (stmt_of s)) (row_stmts_is rest)

pub braces : (v : Vec WrittenStmt Global) → stmt_of (WrittenBlock v) ≡ Block (stmts_of v.items)
braces v = search (rules, row_stmts_is, the_lemmas)

pub row_rows_is : {m : _} (row : Row_of-Rows m) → row_rows row ≡ rows_list (items-the_row-Rows m row)
row_rows_is end_of-Rows = refl
row_rows_is (more_of-Rows r rest) = ap (OneMore (rows_of r)) (row_rows_is rest)
