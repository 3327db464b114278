-- Typed programs: each name is resolved, and each operation says how it reads its operands.
use Rattle.std.specs.Prelude.{ℕ, List, Option}
pub use Rattle.cg_c_syntax.specs.declared.expression.Sign.{Sign}
pub use Rattle.cg_c_syntax.specs.declared.expression.Binary.{Binary}
pub use Rattle.cg_c_syntax.specs.declared.expression.Cast.{Cast}
pub use Rattle.cg_c_syntax.specs.declared.expression.Cast.TheVariants as casts
pub use Rattle.cg_c_syntax.specs.declared.expression.Pick.{Pick}
pub use Rattle.cg_c_syntax.specs.declared.statement.Signedness.{Signedness}
use Rattle.cg_c_syntax.specs.declared.statement.Signedness.TheVariants as signs
pub use Rattle.cg_c_check.specs.declared.program.Constant.{Constant}
pub use Rattle.cg_c_check.specs.declared.program.Array.{Array}
pub use Rattle.cg_c_check.specs.declared.program.Range.{Range}
use Rattle.cg_c_check.specs.Rules.{value_signedness, cast_signedness}

-- an expression. A word is known by its number in the order of declaration; the counter of a loop by the number of loops
-- around the loop; an array by its number. A sign and ?: have the signedness of their value, an operator the one by which
-- it reads its operands. An element has the place of its name
mutual
  pub data Expr : Type 0 where
    Literal : Constant → Expr
    Word : (number : ℕ) → Signedness → Expr
    Counter : (depth : ℕ) → Expr
    Element : (array place : ℕ) → Signedness → (indices : Exprs) → Expr
    Signed : Sign → Signedness → Expr → Expr
    Converted : (to : Cast) → Expr → Expr
    Input : (port : ℕ) → Expr
    Picked : Pick → (first second : Expr) → Expr
    Two : Binary → (reading : Signedness) → (left right : Expr) → Expr
    Choice : Signedness → (condition chosen other : Expr) → Expr

  pub data Exprs : Type 0 where
    NoExprs : Exprs
    MoreExprs : Expr → Exprs → Exprs

-- how the value of an expression is read
abbrev pub signedness_of : Expr → Signedness
signedness_of (Literal c) = c.signedness
signedness_of (Word number s) = s
signedness_of (Counter depth) = signs.Signed
signedness_of (Element array place s indices) = s
signedness_of (Signed sign s e) = s
signedness_of (Converted to e) = cast_signedness to
signedness_of (Input port) = signs.Signed
signedness_of (Picked pick a b) = signs.Signed
signedness_of (Two op reading a b) = value_signedness op reading
signedness_of (Choice s c a b) = s

-- what is assigned: a word, or an element
pub data Target : Type 0 where
  TheWord : (number : ℕ) → Signedness → Target
  TheElement : (array place : ℕ) → Signedness → (indices : Exprs) → Target

-- the first value of a word
pub record Initial : Type 0 where
  pub number : ℕ
  pub value : Expr

-- declarations of words; a block; if, with else or without; out; an assignment, with an operator or without
mutual
  pub data Stmt : Type 0 where
    Words : List Initial → Stmt
    Block : Stmts → Stmt
    If : (condition : Expr) (chosen : Stmt) → Stmt
    IfElse : (condition : Expr) (chosen other : Stmt) → Stmt
    Output : (port : ℕ) (value : Expr) → Stmt
    Assign : (target : Target) (op : Option Binary) (value : Expr) → Stmt

  pub data Stmts : Type 0 where
    NoStmts : Stmts
    MoreStmts : Stmt → Stmts → Stmts

-- a loop with the statements before and after it
pub record Level : Type 0 where
  pub before : Stmts
  pub range : Range
  pub after : Stmts

-- a program: its arrays; how each word is read, by its number; its loops from the outermost to the innermost, each in the one
-- before it; and the statements in the innermost
pub record Program : Type 0 where
  pub name : List ℕ
  pub arrays : List Array
  pub words : List Signedness
  pub levels : List Level
  pub body : Stmts
