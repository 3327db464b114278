-- Loop bodies as they are written, with their operators grouped: to the left, products before sums, sums before
-- comparisons; brackets are dropped.
use Rattle.std.specs.Prelude.{List, [], ◌∷◌, map, Option, Some, None}
use Rattle.cg_word.specs.declared.op.Op.{Op}
use Rattle.cg_word.specs.declared.op.Op.TheVariants.{Mul}
use Rattle.cg_loop_syntax.specs.declared.syntax.Atom.{Atom, Row_of-Expr, end_of-Expr, more_of-Expr}
use Rattle.cg_loop_syntax.specs.declared.syntax.Atom.TheVariants as atoms
use Rattle.cg_loop_syntax.specs.declared.syntax.Expr.{Expr as WrittenExpr, Expr', Held-Expr-compare, None', Some'}
use Rattle.cg_loop_syntax.specs.declared.syntax.Compare.{Compare, Compare'}
use Rattle.cg_loop_syntax.specs.declared.syntax.Sum.{Sum, Sum', Row_of-Term, end_of-Term, more_of-Term, Row_of-Atom, end_of-Atom, more_of-Atom}
use Rattle.cg_loop_syntax.specs.declared.syntax.Prod.{Prod}
use Rattle.cg_loop_syntax.specs.declared.syntax.Term.{Term}
use Rattle.cg_loop_syntax.specs.declared.body.Decl.{Decl}
use Rattle.cg_loop_syntax.specs.declared.body.Stmt.{Stmt as WrittenStmt}
use Rattle.cg_loop_syntax.specs.declared.body.Stmt.TheVariants as stmts
use Rattle.cg_loop_syntax.specs.Loop.{Expr, Num, Turn, In, Scalar, Item, Two, Three, Stmt, Bind, Assign, Put, Emit, Body}

-- an operation by its name, of two or three operands
abbrev pub applied : Op → List Expr → Expr
applied op (a ∷ b ∷ []) = Two op a b
applied op (a ∷ b ∷ c ∷ []) = Three op a b c
applied op _ = Num 0

abbrev mutual
  pub expr_of : WrittenExpr → Expr
  expr_of (Expr' first compare) = compared (sum_of first) compare

  pub compared : Expr → Held-Expr-compare → Expr
  compared e None' = e
  compared e (Some' c) = comparison e c

  pub comparison : Expr → Compare → Expr
  comparison e (Compare' op second) = Two op e (sum_of second)

  pub sum_of : Sum → Expr
  sum_of (Sum' shape atoms shape' rest) = terms_of (prod_of atoms) rest

  pub terms_of : {m : _} → Expr → Row_of-Term m → Expr
  terms_of e end_of-Term = e
  terms_of e (more_of-Term op shape atoms rest) = terms_of (Two op e (prod_of atoms)) rest

  pub prod_of : {m : _} → Row_of-Atom m → Expr
  prod_of end_of-Atom = Num 0
  prod_of (more_of-Atom a rest) = factors_of (atom_of a) rest

  pub factors_of : {m : _} → Expr → Row_of-Atom m → Expr
  factors_of e end_of-Atom = e
  factors_of e (more_of-Atom a rest) = factors_of (Two Mul e (atom_of a)) rest

  pub atom_of : Atom → Expr
  atom_of (atoms.Num w) = Num w
  atom_of atoms.Turn = Turn
  atom_of (atoms.Input p) = In p
  atom_of (atoms.Scalar x) = Scalar x
  atom_of (atoms.Item' a p e) = Item a (expr_of e)
  atom_of (atoms.Bracket' p e) = expr_of e
  atom_of (atoms.Apply' op shape es) = applied op (all_of es)

  pub all_of : {m : _} → Row_of-Expr m → List Expr
  all_of end_of-Expr = []
  all_of (more_of-Expr e rest) = expr_of e ∷ all_of rest

abbrev pub guard_of : Option WrittenExpr → Option Expr
guard_of None = None
guard_of (Some g) = Some (expr_of g)

abbrev pub stmt_of : WrittenStmt → Stmt
stmt_of (stmts.Bind x e) = Bind x (expr_of e)
stmt_of (stmts.Assign x e) = Assign x (expr_of e)
stmt_of (stmts.Put a ix v g) = Put a (expr_of ix) (expr_of v) (guard_of g)
stmt_of (stmts.Emit p v g) = Emit p (expr_of v) (guard_of g)

abbrev pub grouped : List Decl → List WrittenStmt → Body
grouped decls stmts = record { decls = decls; stmts = map stmt_of stmts }

-- a product and a sum, over the lists in the types
abbrev pub factors : Expr → List Atom → Expr
factors e [] = e
factors e (a ∷ rest) = factors (Two Mul e (atom_of a)) rest

abbrev pub product : List Atom → Expr
product [] = Num 0
product (a ∷ rest) = factors (atom_of a) rest

abbrev pub whole_prod : Prod → Expr
whole_prod p = product p.atoms.items

abbrev pub terms : Expr → List Term → Expr
terms e [] = e
terms e (t ∷ rest) = terms (Two t.op e (whole_prod t.prod)) rest
