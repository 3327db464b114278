-- The typed expressions of a source.
use Rattle.std.specs.Prelude.{ℕ, suc, Bool, false, ◌&&◌, not, Option, Some, None, option_map, Ok, Err}
use Rattle.cg_c_syntax.specs.Tree as tree
use Rattle.cg_c_check.specs.declared.fault.CheckFault.TheVariants.{WrongUse, BadShift, BadPort}
use Rattle.cg_c_check.specs.declared.names.Meaning.TheVariants as meanings
use Rattle.cg_c_check.specs.Rules.{common, reading_of, sign_signedness, is_conditional, is_wide, folded_two, folded_sign, folded_cast, folded_choice}
use Rattle.cg_c_check.specs.Program.{Sign, Binary, Cast, Expr, Literal, Word, Counter, Element, Signed, Converted, Input, Picked, Two, Choice, Exprs, NoExprs, MoreExprs, signedness_of}
use Rattle.cg_c_check.specs.Faults.{Checked}
use Rattle.cg_c_check.specs.Names.{Meaning, known, array_named}
use Rattle.cg_c_check.specs.Constants.{Constant, count, number}
use Rattle.cg_c_check.specs.Walk.{Walk, ◌>>=◌, ◌>>◌, give, by_names, need, input_port}

-- the number that an expression is, if it is one
abbrev pub literal_of : Expr → Option Constant
literal_of (Literal c) = Some c
literal_of _ = None

-- ---- operations on numbers alone are folded

abbrev pub folded_or : Option Constant → Expr → Expr
folded_or (Some c) e = Literal c
folded_or None e = e

abbrev pub number_of_two : Binary → (left right : Option Constant) → Option Constant
number_of_two op (Some x) (Some y) = Some (folded_two op x y)
number_of_two op _ _ = None

abbrev pub number_of_choice : (condition chosen other : Option Constant) → Option Constant
number_of_choice (Some c) (Some x) (Some y) = Some (folded_choice c x y)
number_of_choice _ _ _ = None

abbrev pub two : Binary → Expr → Expr → Expr
two op a b = folded_or (number_of_two op (literal_of a) (literal_of b)) (Two op (reading_of op (signedness_of a) (signedness_of b)) a b)

abbrev pub signed : Sign → Expr → Expr
signed sign e = folded_or (option_map (folded_sign sign) (literal_of e)) (Signed sign (sign_signedness sign (signedness_of e)) e)

abbrev pub converted : Cast → Expr → Expr
converted to e = folded_or (option_map (folded_cast to) (literal_of e)) (Converted to e)

abbrev pub choice : Expr → Expr → Expr → Expr
choice c a b = folded_or (number_of_choice (literal_of c) (literal_of a) (literal_of b)) (Choice (common (signedness_of a) (signedness_of b)) c a b)

-- F9: a count of a shift that is a number is below 32
abbrev pub is_wide_count : Binary → Option Constant → Bool
is_wide_count op None = false
is_wide_count op (Some c) = is_wide op c

abbrev pub is_wide_by : Binary → Expr → Bool
is_wide_by op e = is_wide_count op (literal_of e)

-- F6: what a name without indices stands for
abbrev pub value_named : (place : ℕ) → Meaning → Checked Expr
value_named place (meanings.Constant c) = Ok (Literal c)
value_named place (meanings.Word number signedness) = Ok (Word number signedness)
value_named place (meanings.Counter depth) = Ok (Counter depth)
value_named place _ = Err (WrongUse place)

-- ---- expressions. `each` says that each turn passes this place

unfoldable mutual
  pub expr : (each : Bool) → tree.Expr → Walk Expr
  expr each (tree.Num n) = do
    c ← by_names (λ names. number n)
    give (Literal c)
  expr each (tree.Access name indices) = do
    meaning ← by_names (λ names. known names name)
    accessed each name.place meaning indices
  expr each (tree.Signed sign place e) = do
    a ← expr each e
    give (signed sign a)
  expr each (tree.Converted to place e) = do
    a ← expr each e
    give (converted to a)
  expr each (tree.Input place port) = do
    p ← input_port port
    need each (BadPort place)
    give (Input p)
  expr each (tree.Picked pick place first second) = do
    a ← expr each first
    b ← expr each second
    give (Picked pick a b)
  expr each (tree.Two op place left right) = do
    a ← expr each left
    b ← expr (each && not (is_conditional op)) right
    need (not (is_wide_by op b)) (BadShift place)
    give (two op a b)
  expr each (tree.Choice place condition chosen other) = do
    c ← expr each condition
    a ← expr false chosen
    b ← expr false other
    give (choice c a b)

  pub exprs : (each : Bool) → tree.Exprs → Walk Exprs
  exprs each tree.NoExprs = give NoExprs
  exprs each (tree.MoreExprs e es) = do
    a ← expr each e
    further ← exprs each es
    give (MoreExprs a further)

  -- a word, or by its indices an element
  pub accessed : (each : Bool) → (place : ℕ) → Meaning → tree.Exprs → Walk Expr
  accessed each place meaning tree.NoExprs = by_names (λ names. value_named place meaning)
  accessed each place meaning (tree.MoreExprs e es) = do
    shape ← by_names (λ names. array_named place (suc (count es)) meaning)
    a ← expr each e
    further ← exprs each es
    give (Element shape.number place shape.signedness (MoreExprs a further))
