-- The meaning of a text: a loop body, and its uses of names and ports with their places.
use Rattle.std.specs.Prelude.{List, [], ◌∷◌, ◌++◌, map, Option, Some, None}
use Rattle.std.specs.List.{flat_map}
use Rattle.cg_word.specs.declared.op.Op.TheVariants.{Mul}
use Rattle.cg_tokens.specs.Tokens.{Placed}
use Rattle.cg_loop_syntax.specs.declared.uses.Role.{Role}
use Rattle.cg_loop_syntax.specs.declared.uses.Role.TheVariants as roles
use Rattle.cg_loop_syntax.specs.declared.body.Decl.{Decl as PlainDecl}
use Rattle.cg_loop_syntax.specs.declared.body.Decl.TheVariants as decls
use Rattle.cg_loop_syntax.specs.Loop as plain
use Rattle.cg_loop_syntax.specs.Grouped.{applied}
use Rattle.cg_loop_syntax.specs.Uses.{Use}
use Rattle.cg_loop_text_spec.specs.Words.{number_of, op_called, added_by, compared_by, op_of}
use Rattle.cg_loop_text_spec.specs.Grammar.{Expr, Plain, Compared, Sum, Sums, Terms, NoTerms, Term, Prod, Prods, Factors, NoFactors, Factor, Atom, Number, Turn, Input, Scalar, Item, Bracket, Apply, Args, One, More, Guard, NoGuard, If, Stmt, Let, Assign, Store, Out, Decl, Array, Carry, Text}

-- ---- the loop body: operators are grouped to the left, brackets are dropped

abbrev mutual
  pub expr_value : Expr → plain.Expr
  expr_value (Plain s) = sum_value s
  expr_value (Compared s sign r) = plain.Two (op_of (compared_by sign.text)) (sum_value s) (sum_value r)

  pub sum_value : Sum → plain.Expr
  sum_value (Sums p ts) = terms_value (prod_value p) ts

  pub terms_value : plain.Expr → Terms → plain.Expr
  terms_value e NoTerms = e
  terms_value e (Term sign p ts) = terms_value (plain.Two (op_of (added_by sign.text)) e (prod_value p)) ts

  pub prod_value : Prod → plain.Expr
  prod_value (Prods a fs) = factors_value (atom_value a) fs

  pub factors_value : plain.Expr → Factors → plain.Expr
  factors_value e NoFactors = e
  factors_value e (Factor star a fs) = factors_value (plain.Two Mul e (atom_value a)) fs

  pub atom_value : Atom → plain.Expr
  atom_value (Number t) = plain.Num (number_of t.text)
  atom_value (Turn t) = plain.Turn
  atom_value (Input t p) = plain.In (number_of p.text)
  atom_value (Scalar t) = plain.Scalar t.text
  atom_value (Item t opens e closes) = plain.Item t.text (expr_value e)
  atom_value (Bracket opens e closes) = expr_value e
  atom_value (Apply op opens args closes) = applied (op_of (op_called op.text)) (args_values args)

  pub args_values : Args → List plain.Expr
  args_values (One e) = expr_value e ∷ []
  args_values (More e comma args) = expr_value e ∷ args_values args

abbrev pub guard_value : Guard → Option plain.Expr
guard_value NoGuard = None
guard_value (If word e) = Some (expr_value e)

abbrev pub stmt_value : Stmt → plain.Stmt
stmt_value (Let word name sign e end) = plain.Bind name.text (expr_value e)
stmt_value (Assign name sign e end) = plain.Assign name.text (expr_value e)
stmt_value (Store name opens ix closes sign e g end) = plain.Put name.text (expr_value ix) (expr_value e) (guard_value g)
stmt_value (Out word port sign e g end) = plain.Emit (number_of port.text) (expr_value e) (guard_value g)

abbrev pub decl_value : Decl → PlainDecl
decl_value (Array word name at_word at len_word len end) = decls.Array name.text (number_of at.text) (number_of len.text)
decl_value (Carry word name sign start end) = decls.Carry name.text (number_of start.text)

abbrev pub text_body : Text → plain.Body
text_body t = record { decls = map decl_value t.decls; stmts = map stmt_value t.stmts }

-- ---- names and ports

abbrev pub of_name : Role → Placed → Use
of_name role t = record { role = role; name = t.text; place = t.place }

abbrev pub of_port : Role → Placed → Use
of_port role t = record { role = role; name = []; place = t.place }

abbrev mutual
  pub expr_uses : Expr → List Use
  expr_uses (Plain s) = sum_uses s
  expr_uses (Compared s sign r) = sum_uses s ++ sum_uses r

  pub sum_uses : Sum → List Use
  sum_uses (Sums p ts) = prod_uses p ++ terms_uses ts

  pub terms_uses : Terms → List Use
  terms_uses NoTerms = []
  terms_uses (Term sign p ts) = prod_uses p ++ terms_uses ts

  pub prod_uses : Prod → List Use
  prod_uses (Prods a fs) = atom_uses a ++ factors_uses fs

  pub factors_uses : Factors → List Use
  factors_uses NoFactors = []
  factors_uses (Factor star a fs) = atom_uses a ++ factors_uses fs

  pub atom_uses : Atom → List Use
  atom_uses (Number t) = []
  atom_uses (Turn t) = []
  atom_uses (Input t p) = of_port (roles.Input (number_of p.text)) p ∷ []
  atom_uses (Scalar t) = of_name roles.Scalar t ∷ []
  atom_uses (Item t opens e closes) = of_name roles.Item t ∷ expr_uses e
  atom_uses (Bracket opens e closes) = expr_uses e
  atom_uses (Apply op opens args closes) = args_uses args

  pub args_uses : Args → List Use
  args_uses (One e) = expr_uses e
  args_uses (More e comma args) = expr_uses e ++ args_uses args

abbrev pub guard_uses : Guard → List Use
guard_uses NoGuard = []
guard_uses (If word e) = expr_uses e

-- a `let` declares its name after its value
abbrev pub stmt_uses : Stmt → List Use
stmt_uses (Let word name sign e end) = expr_uses e ++ of_name roles.Bind name ∷ []
stmt_uses (Assign name sign e end) = of_name roles.Assign name ∷ expr_uses e
stmt_uses (Store name opens ix closes sign e g end) = of_name roles.Item name ∷ (expr_uses ix ++ (expr_uses e ++ guard_uses g))
stmt_uses (Out word port sign e g end) = of_port (roles.Output (number_of port.text)) port ∷ (expr_uses e ++ guard_uses g)

abbrev pub decl_use : Decl → Use
decl_use (Array word name at_word at len_word len end) = of_name (roles.Array (number_of at.text) (number_of len.text)) name
decl_use (Carry word name sign start end) = of_name roles.Carry name

abbrev pub decls_uses : List Decl → List Use
decls_uses [] = []
decls_uses (d ∷ ds) = decl_use d ∷ decls_uses ds

abbrev pub text_uses : Text → List Use
text_uses t = decls_uses t.decls ++ flat_map stmt_uses t.stmts

-- the same use, without its place
abbrev pub forget : Use → Use
forget u = record u { place = 0 }
