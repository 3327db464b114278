-- The rows of trees, by the lists that the types hold.
use Rattle.std.proofs.Common.{◌≡◌, List, [], ◌∷◌, ◌++◌, refl, ap}
use Rattle.cg_c_syntax.specs.declared.expression.Expr.{Row_of-Expr, end_of-Expr, more_of-Expr, items-the_row-Expr, Row_of-Link, end_of-Link, more_of-Link, items-the_row-Link}
use Rattle.cg_c_syntax.specs.declared.expression.Link.{Link}
use Rattle.cg_c_syntax.specs.Tree.{Expr, Two, MoreExprs}
use Rattle.cg_c_syntax.specs.Written.{expr_of, row_exprs, row_linked, exprs_of, linked}

pub exprs_is : {m : _} (row : Row_of-Expr m) → row_exprs row ≡ exprs_of (items-the_row-Expr m row)
exprs_is end_of-Expr = refl
exprs_is (more_of-Expr e rest) = ap (MoreExprs (expr_of e)) (exprs_is rest)

pub linked_is : {m : _} (e : Expr) (row : Row_of-Link m) → row_linked e row ≡ linked e (items-the_row-Link m row)
linked_is e end_of-Link = refl
linked_is e (more_of-Link op place operand rest) = linked_is (Two op place e (expr_of operand)) rest

-- one more at the end
pub linked_push : (e : Expr) (ls : List Link) (l : Link) → linked e (ls ++ l ∷ []) ≡ Two l.op l.place (linked e ls) (expr_of l.operand)
linked_push e [] l = refl
linked_push e (x ∷ ls) l = linked_push (Two x.op x.place e (expr_of x.operand)) ls l
