-- The values of constant expressions.
use Rattle.std.specs.Prelude.{ℕ, zero, suc, not, Ok, Err}
use Rattle.cg_c_syntax.specs.declared.expression.Number.{Number}
use Rattle.cg_c_syntax.specs.Tree.{Expr, Num, Access, Signed, Converted, Input, Picked, Two, Choice, Exprs, NoExprs, MoreExprs}
use Rattle.cg_c_check.specs.declared.fault.CheckFault.TheVariants.{WrongUse, NotConstant, BadNumber, BadShift}
use Rattle.cg_c_check.specs.declared.names.Meaning.TheVariants as meanings
pub use Rattle.cg_c_check.specs.declared.program.Constant.{Constant}
use Rattle.cg_c_check.specs.Rules.{fits, constant_of_number, is_wide, folded_two, folded_sign, folded_cast, folded_choice}
use Rattle.cg_c_check.specs.Faults.{Checked, ◌>>=◌, ◌>>◌, demand}
use Rattle.cg_c_check.specs.Names.{Names, Meaning, known, array_named}

-- the place of an expression: that of its operator, or else of its first token
abbrev pub place_of : Expr → ℕ
place_of (Num number) = number.place
place_of (Access name indices) = name.place
place_of (Signed sign place e) = place
place_of (Converted to place e) = place
place_of (Input place port) = place
place_of (Picked pick place a b) = place
place_of (Two op place a b) = place
place_of (Choice place c a b) = place

abbrev pub count : Exprs → ℕ
count NoExprs = 0
count (MoreExprs e es) = suc (count es)

-- F8
abbrev pub number : Number → Checked Constant
number n = demand (fits n) (BadNumber n.place) >> Ok (constant_of_number n)

-- F6, F7: of the names alone, those of constants are constant
abbrev pub constant_named : (place : ℕ) → Meaning → Checked Constant
constant_named place (meanings.Constant c) = Ok c
constant_named place (meanings.Word number signedness) = Err (NotConstant place)
constant_named place (meanings.Counter depth) = Err (NotConstant place)
constant_named place _ = Err (WrongUse place)

-- F6, F7: what a name with this number of indices is
abbrev pub constant_accessed : (place indices : ℕ) → Meaning → Checked Constant
constant_accessed place zero meaning = constant_named place meaning
constant_accessed place (suc n) meaning = array_named place (suc n) meaning >> Err (NotConstant place)

-- the value of an expression that has to be constant
unfoldable pub constant_of : Names → Expr → Checked Constant
constant_of names (Num n) = number n
constant_of names (Access name indices) = do
  meaning ← known names name
  constant_accessed name.place (count indices) meaning
constant_of names (Signed sign place e) = do
  x ← constant_of names e
  Ok (folded_sign sign x)
constant_of names (Converted to place e) = do
  x ← constant_of names e
  Ok (folded_cast to x)
constant_of names (Input place port) = Err (NotConstant place)
constant_of names (Picked pick place a b) = Err (NotConstant place)
constant_of names (Two op place a b) = do
  x ← constant_of names a
  y ← constant_of names b
  demand (not (is_wide op y)) (BadShift place)
  Ok (folded_two op x y)
constant_of names (Choice place c a b) = do
  condition ← constant_of names c
  x ← constant_of names a
  y ← constant_of names b
  Ok (folded_choice condition x y)
