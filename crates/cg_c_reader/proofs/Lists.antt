-- Lists of what is read.
use Rattle.std.proofs.Common.{◌≡◌, List, [], ◌∷◌, ◌++◌, refl, ap}
use Rattle.std.specs.Prelude.{map}
use Rattle.cg_c_syntax.specs.declared.statement.Stmt.{Stmt as WrittenStmt}
use Rattle.cg_c_syntax.specs.Tree.{Stmts, NoStmts, MoreStmts, Loop, Nest, Bare, Holds}
use Rattle.cg_c_syntax.specs.Grammar.{preceded}
use Rattle.cg_c_syntax.specs.declared.expression.Expr.{Expr as WrittenExpr}
use Rattle.cg_c_syntax.specs.declared.source.Rows.{Rows as WrittenRows}
use Rattle.cg_c_syntax.specs.Tree.{Exprs, NoExprs, MoreExprs, RowsList, NoRows, OneMore}
use Rattle.cg_c_syntax.specs.Written.{stmt_of, before, stmts_of, expr_of, exprs_of, exprs_before, rows_of, rows_list, rows_before}
use Rattle.cg_c_reader.specs.Parts.{preceding}

-- one more at the end
pub map_push : {A B : Type 0} (f : A → B) (xs : List A) (x : A) (ys : List B) → map f (xs ++ x ∷ []) ++ ys ≡ map f xs ++ (f x ∷ ys)
map_push f [] x ys = refl
map_push f (y ∷ xs) x ys = ap (λ (zs : List _). f y ∷ zs) (map_push f xs x ys)

pub before_push : (ss : List WrittenStmt) (s : WrittenStmt) (rest : Stmts) → before (ss ++ s ∷ []) rest ≡ before ss (MoreStmts (stmt_of s) rest)
before_push [] s rest = refl
before_push (x ∷ ss) s rest = ap (MoreStmts (stmt_of x)) (before_push ss s rest)

pub preceding_push : (ss : List WrittenStmt) (s : WrittenStmt) (n : Nest) → preceding (ss ++ s ∷ []) n ≡ preceding ss (preceded (stmt_of s) n)
preceding_push [] s n = refl
preceding_push (x ∷ ss) s n = ap (preceded (stmt_of x)) (preceding_push ss s n)

-- before the } and before a loop
pub preceding_bare : (ss : List WrittenStmt) → preceding ss (Bare NoStmts) ≡ Bare (stmts_of ss)
preceding_bare [] = refl
preceding_bare (s ∷ ss) = ap (preceded (stmt_of s)) (preceding_bare ss)

pub preceding_holds : (ss : List WrittenStmt) (inner : Loop) (after : Stmts) → preceding ss (Holds NoStmts inner after) ≡ Holds (stmts_of ss) inner after
preceding_holds [] inner after = refl
preceding_holds (s ∷ ss) inner after = ap (preceded (stmt_of s)) (preceding_holds ss inner after)

pub exprs_push : (es : List WrittenExpr) (e : WrittenExpr) (rest : Exprs) → exprs_before (es ++ e ∷ []) rest ≡ exprs_before es (MoreExprs (expr_of e) rest)
exprs_push [] e rest = refl
exprs_push (x ∷ es) e rest = ap (MoreExprs (expr_of x)) (exprs_push es e rest)

pub exprs_none : (es : List WrittenExpr) → exprs_before es NoExprs ≡ exprs_of es
exprs_none [] = refl
exprs_none (e ∷ es) = ap (MoreExprs (expr_of e)) (exprs_none es)

pub rows_push : (rs : List WrittenRows) (r : WrittenRows) (rest : RowsList) → rows_before (rs ++ r ∷ []) rest ≡ rows_before rs (OneMore (rows_of r) rest)
rows_push [] r rest = refl
rows_push (x ∷ rs) r rest = ap (OneMore (rows_of x)) (rows_push rs r rest)

pub rows_none : (rs : List WrittenRows) → rows_before rs NoRows ≡ rows_list rs
rows_none [] = refl
rows_none (r ∷ rs) = ap (OneMore (rows_of r)) (rows_none rs)
