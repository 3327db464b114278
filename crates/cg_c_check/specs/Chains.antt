-- Operators that are written one after another, and the operands between them.
use Rattle.std.specs.Prelude.{not, List, [], ◌∷◌, Ok}
use Rattle.cg_c_syntax.specs.declared.expression.Link.{Link}
use Rattle.cg_c_syntax.specs.Written.{expr_of}
use Rattle.cg_c_check.specs.declared.fault.CheckFault.TheVariants.{BadShift}
use Rattle.cg_c_check.specs.Rules.{is_wide, folded_two}
use Rattle.cg_c_check.specs.Faults.{Checked, ◌>>=◌, ◌>>◌, demand}
use Rattle.cg_c_check.specs.Names.{Names}
use Rattle.cg_c_check.specs.Constants.{Constant, constant_of}

-- the value of one more operator and operand
abbrev pub constant_joined : Names → Constant → Link → Checked Constant
constant_joined names x l = do
  y ← constant_of names (expr_of l.operand)
  demand (not (is_wide l.op y)) (BadShift l.place)
  Ok (folded_two l.op x y)

-- the value of all of them
abbrev pub constant_chained : Names → Checked Constant → List Link → Checked Constant
constant_chained names x [] = x
constant_chained names x (l ∷ ls) = constant_chained names (x >>= λ c. constant_joined names c l) ls
