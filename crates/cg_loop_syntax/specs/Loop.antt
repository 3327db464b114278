-- Loop bodies with the operators of their expressions grouped: declarations, statements, expressions.
use Rattle.std.specs.Prelude.{ℕ, bytes_eq, if◌then◌else◌, List, [], ◌∷◌, Option, Some, None}
use Rattle.cg_word.specs.declared.op.Op.{Op}
pub use Rattle.cg_loop_syntax.specs.declared.body.Decl.{Decl}
pub use Rattle.cg_loop_syntax.specs.declared.body.Decl.TheVariants.{Array, Carry}

-- a number; the number of the iteration; the word of this iteration in an input stream; the word of a carry or of a
-- `let`; a word of an array; an operation of two or of three operands
pub data Expr : Type 0 where
  Num : (word : ℕ) → Expr
  Turn : Expr
  In : (port : ℕ) → Expr
  Scalar : (name : List ℕ) → Expr
  Item : (array : List ℕ) (index : Expr) → Expr
  Two : (op : Op) (a b : Expr) → Expr
  Three : (op : Op) (a b c : Expr) → Expr

-- a `let`, an assignment, a store, an output
pub data Stmt : Type 0 where
  Bind : (name : List ℕ) (value : Expr) → Stmt
  Assign : (name : List ℕ) (value : Expr) → Stmt
  Put : (array : List ℕ) (index value : Expr) (guard : Option Expr) → Stmt
  Emit : (port : ℕ) (value : Expr) (guard : Option Expr) → Stmt

pub record Body : Type 0 where
  pub decls : List Decl
  pub stmts : List Stmt

-- the place of an array in the memory
pub record Extent : Type 0 where
  pub at : ℕ
  pub len : ℕ

-- the place of the array of the given name; no words if there is none
abbrev pub extent : List Decl → List ℕ → Extent
extent [] x = record { at = 0; len = 0 }
extent (Array y at len ∷ ds) x = if bytes_eq x y then record { at = at; len = len } else extent ds x
extent (Carry y start ∷ ds) x = extent ds x

-- the declared word of the carry of the given name
abbrev pub carry : List Decl → List ℕ → Option ℕ
carry [] x = None
carry (Array y at len ∷ ds) x = carry ds x
carry (Carry y start ∷ ds) x = if bytes_eq x y then Some start else carry ds x
