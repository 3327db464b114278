-- Typed operators that are written one after another, and the operands between them.
use Rattle.std.specs.Prelude.{Bool, ◌&&◌, not, List, [], ◌∷◌}
use Rattle.cg_c_syntax.specs.declared.expression.Link.{Link}
use Rattle.cg_c_syntax.specs.Written.{expr_of}
use Rattle.cg_c_check.specs.declared.fault.CheckFault.TheVariants.{BadShift}
use Rattle.cg_c_check.specs.Rules.{is_conditional}
use Rattle.cg_c_check.specs.Program.{Expr}
use Rattle.cg_c_check.specs.Faults.{Checked}
use Rattle.cg_c_check.specs.Walk.{State, Walk, onward, ◌>>=◌, ◌>>◌, give, need}
use Rattle.cg_c_check.specs.Expressions.{expr, is_wide_by, two}

-- one more operator and operand after a
abbrev pub joined : (each : Bool) → Expr → Link → Walk Expr
joined each a l = do
  b ← expr (each && not (is_conditional l.op)) (expr_of l.operand)
  need (not (is_wide_by l.op b)) (BadShift l.place)
  give (two l.op a b)

-- all of them
abbrev pub chained : (each : Bool) → Checked (Expr × State) → List Link → Checked (Expr × State)
chained each r [] = r
chained each r (l ∷ ls) = chained each (onward (λ a. joined each a l) r) ls
