-- Sources as trees. Operators are grouped, brackets are dropped; a place is that of the first byte of the operator, or
-- of the first token where there is none.
use Rattle.std.specs.Prelude.{ℕ, Bool, List, Option}
pub use Rattle.cg_c_syntax.specs.declared.expression.Number.{Number}
pub use Rattle.cg_c_syntax.specs.declared.expression.Named.{Named}
pub use Rattle.cg_c_syntax.specs.declared.expression.Sign.{Sign}
pub use Rattle.cg_c_syntax.specs.declared.expression.Binary.{Binary}
pub use Rattle.cg_c_syntax.specs.declared.expression.Cast.{Cast}
pub use Rattle.cg_c_syntax.specs.declared.expression.Pick.{Pick}
pub use Rattle.cg_c_syntax.specs.declared.statement.Signedness.{Signedness}

mutual
  -- a number; a word, or by its indices an element; a sign, a cast, in, min or max, an operator, ?:
  pub data Expr : Type 0 where
    Num : Number → Expr
    Access : (name : Named) (indices : Exprs) → Expr
    Signed : (sign : Sign) (place : ℕ) (operand : Expr) → Expr
    Converted : (to : Cast) (place : ℕ) (operand : Expr) → Expr
    Input : (place : ℕ) (port : Expr) → Expr
    Picked : (pick : Pick) (place : ℕ) (first second : Expr) → Expr
    Two : (op : Binary) (place : ℕ) (left right : Expr) → Expr
    Choice : (place : ℕ) (condition chosen other : Expr) → Expr

  pub data Exprs : Type 0 where
    NoExprs : Exprs
    MoreExprs : Expr → Exprs → Exprs

pub record Word : Type 0 where
  pub name : Named
  pub value : Expr

pub record Target : Type 0 where
  pub name : Named
  pub indices : Exprs

mutual
  -- declarations of words; a block; if, with else or without; out; an assignment, with an operator or without
  pub data Stmt : Type 0 where
    Words : (signedness : Signedness) → List Word → Stmt
    Block : Stmts → Stmt
    If : (condition : Expr) (chosen : Stmt) → Stmt
    IfElse : (condition : Expr) (chosen other : Stmt) → Stmt
    Output : (port value : Expr) → Stmt
    Assign : (target : Target) (op : Option Binary) (value : Expr) → Stmt

  pub data Stmts : Type 0 where
    NoStmts : Stmts
    MoreStmts : Stmt → Stmts → Stmts

-- the head of a `for`, after it
pub record Head : Type 0 where
  pub counter : Named
  pub start : Expr
  pub inclusive : Bool
  pub bound : Expr
  pub step : Option Expr

mutual
  pub data Loop : Type 0 where
    For : (place : ℕ) (head : Head) (body : Nest) → Loop

  -- statements alone; or those before a loop, the loop, and those after it
  pub data Nest : Type 0 where
    Bare : Stmts → Nest
    Holds : (before : Stmts) (inner : Loop) (after : Stmts) → Nest

pub record Constant : Type 0 where
  pub name : Named
  pub value : Expr

pub record Array : Type 0 where
  pub name : Named
  pub dimensions : Exprs

mutual
  -- the values of the last dimension, or the rows of one before it, with the place of their {
  pub data Rows : Type 0 where
    Items : (place : ℕ) → Exprs → Rows
    Inner : (place : ℕ) → RowsList → Rows

  pub data RowsList : Type 0 where
    NoRows : RowsList
    OneMore : Rows → RowsList → RowsList

pub record Table : Type 0 where
  pub signedness : Signedness
  pub array : Array
  pub rows : Rows

pub data Global : Type 0 where
  Define : Constant → Global
  Enumeration : List Constant → Global
  Arrays : (signedness : Signedness) → List Array → Global
  Constants : Table → Global

pub record Source : Type 0 where
  pub globals : List Global
  pub name : Named
  pub before : Stmts
  pub outer : Loop
  pub after : Stmts
