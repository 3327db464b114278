-- The symbols of the grammar, with the number of constructs that are open around them, and what each denotes.
use Rattle.std.specs.Prelude.{ℕ, Bool, List, Option}
use Rattle.cg_c_syntax.specs.declared.token.Kind.{Kind}
use Rattle.cg_c_syntax.specs.declared.expression.Binary.{Binary}
use Rattle.cg_c_syntax.specs.Tree.{Expr, Exprs, Named, Number, Word, Stmt, Stmts, Head, Loop, Nest, Constant, Array, Rows, RowsList, Table, Global, Source}

-- what an assignment does to its target
pub record Assignment : Type 0 where
  pub op : Option Binary
  pub value : Expr

-- statements before a loop, the loop, and statements after it
pub record Around : Type 0 where
  pub before : Stmts
  pub outer : Loop
  pub after : Stmts

pub record HeadAndBody : Type 0 where
  pub head : Head
  pub body : Nest

pub record ArrayAndRows : Type 0 where
  pub array : Array
  pub rows : Rows

pub record DimensionsAndRows : Type 0 where
  pub dimensions : Exprs
  pub rows : Rows

pub data Symbol : Type 0 where
  -- a token of the kind; a word; a mark; a name; a number
  OfKind : Kind → Symbol
  TheWord : List ℕ → Symbol
  TheMark : List ℕ → Symbol
  Name : Symbol
  Digits : Symbol
  -- expr
  Expression : (depth : ℕ) → Symbol
  -- ["?" expr ":" expr]
  Chosen : (depth : ℕ) → Symbol
  -- an expression of operators up to the level, of which 0 is unary and 10 is or; the operators of the level and their
  -- right operands
  Operators : (level depth : ℕ) → Symbol
  Further : (level depth : ℕ) → Symbol
  -- what follows the ( of an operand; the operand of a cast, with the place of the cast
  Bracketed : (place depth : ℕ) → Symbol
  CastOperand : (place depth : ℕ) → Symbol
  -- up to `most` indices
  Indices : (most depth : ℕ) → Symbol
  -- NAME "=" expr; what follows a declaration of a word, up to the ;
  Declared : (depth : ℕ) → Symbol
  MoreDeclared : (depth : ℕ) → Symbol
  -- stmt; plain; ["else" plain]; what follows the target of an assignment, with the place of the target
  Statement : (depth : ℕ) → Symbol
  Plain : (depth : ℕ) → Symbol
  Else : (depth : ℕ) → Symbol
  Assigned : (place depth : ℕ) → Symbol
  -- {stmt} "}"; {stmt} [loop {stmt}] "}"; {stmt} loop {stmt} "}"
  Statements : (depth : ℕ) → Symbol
  Nested : (depth : ℕ) → Symbol
  Body : Symbol
  -- loop; what follows its "("; "int" or "int32_t"; "<" or "<="; "++" or "+=" expr; inside
  Looped : (depth : ℕ) → Symbol
  Counter : (depth : ℕ) → Symbol
  CounterType : Symbol
  Relation : Symbol
  Stepped : (depth : ℕ) → Symbol
  Inside : (depth : ℕ) → Symbol
  -- array; its first index and the others; what follows an array, up to the ;
  Declarator : Symbol
  Dimensions : Symbol
  MoreDeclarators : Symbol
  -- type array "=" rows ";"; array "=" rows ";", after its name, and after `dimensions` of its dimensions
  Tabled : Symbol
  TableName : Symbol
  TableDimensions : Symbol
  MoreTable : (dimensions : ℕ) → Symbol
  -- rows of one dimension and `more` others; what follows an item of the last dimension, and rows before it, up to the }
  Braced : (more : ℕ) → Symbol
  MoreValues : Symbol
  MoreRows : (more : ℕ) → Symbol
  -- NAME "=" expr; what follows it, up to the ;
  Enumerator : Symbol
  MoreEnumerators : Symbol
  -- what follows #define, and then the name, which ends at the place
  Defined : Symbol
  DefinedValue : (end : ℕ) → Symbol
  -- global; {global} and the function; file; the end of the text
  Declaration : Symbol
  Declarations : Symbol
  File : Symbol
  TextEnds : Symbol

abbrev pub Value : Symbol → Type 0
Value (OfKind kind) = Unit {0}
Value (TheWord s) = Unit {0}
Value (TheMark s) = Unit {0}
Value Name = Named
Value Digits = Number
Value (Expression depth) = Expr
Value (Chosen depth) = Expr → Expr
Value (Operators level depth) = Expr
Value (Further level depth) = Expr → Expr
Value (Bracketed place depth) = Expr
Value (CastOperand place depth) = Expr
Value (Indices most depth) = Exprs
Value (Declared depth) = Word
Value (MoreDeclared depth) = List Word
Value (Statement depth) = Stmt
Value (Plain depth) = Stmt
Value (Else depth) = Option Stmt
Value (Assigned place depth) = Assignment
Value (Statements depth) = Stmts
Value (Nested depth) = Nest
Value Body = Around
Value (Looped depth) = Loop
Value (Counter depth) = HeadAndBody
Value CounterType = Unit {0}
Value Relation = Bool
Value (Stepped depth) = Option Expr
Value (Inside depth) = Nest
Value Declarator = Array
Value Dimensions = Exprs
Value MoreDeclarators = List Array
Value Tabled = Table
Value TableName = ArrayAndRows
Value TableDimensions = DimensionsAndRows
Value (MoreTable dimensions) = DimensionsAndRows
Value (Braced more) = Rows
Value MoreValues = Exprs
Value (MoreRows more) = RowsList
Value Enumerator = Constant
Value MoreEnumerators = List Constant
Value Defined = Constant
Value (DefinedValue end) = Expr
Value Declaration = Global
Value Declarations = Source
Value File = Source
Value TextEnds = Unit {0}
