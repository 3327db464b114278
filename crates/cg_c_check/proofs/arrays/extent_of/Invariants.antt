use Rattle.std.proofs.Common.{◌≡◌, ℕ, drop, List}
use Rattle.cg_c_syntax.specs.Written.{exprs_of}
use Rattle.cg_c_syntax.specs.declared.expression.Expr.{Expr}
use Rattle.cg_c_check.specs.Names.{Names}
use Rattle.cg_c_check.specs.Arrays.{dimensions_of, size_of, end_of}
use Rattle.cg_c_check.proofs.Words.{behind}
use Rattle.cg_c_check.proofs.arrays.extent_of.Given as goal

-- the dimensions so far, and those that are left; their product; the end of the array
pub record Measured (names : Names) (start : ℕ) (exprs : List Expr) (i : ℕ) (dimensions : List ℕ) (size end : ℕ) : Type 0 where
  pub whole : dimensions_of names start 1 (exprs_of exprs) ≡ behind dimensions (dimensions_of names start size (exprs_of (drop i exprs)))
  pub product : size ≡ size_of dimensions
  pub ends : end ≡ end_of start dimensions

abbrev pub invariant-loop-expr : goal.invariant-loop-expr
invariant-loop-expr l = Measured l.names l.start l.exprs l.expr-index l.dimensions.items l.size l.end
