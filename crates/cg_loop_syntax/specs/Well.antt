-- The rules of a loop body: those of the grammar for names, operations, operands and brackets, and that none of Q2 to
-- Q6 applies.
use Rattle.std.specs.Prelude.{◌≡◌, ℕ, suc, ◌-◌, eqb, nat_le, nat_lt, Bool, true, false, ◌&&◌, ◌||◌, not, List, [], ◌∷◌, codes, bytes_eq, Option, Some, None}
use Rattle.std.specs.List.{list_all, list_any, AllPass}
use Rattle.cg_word.specs.declared.op.Op.{Op}
use Rattle.cg_word.specs.declared.op.Op.TheVariants.{Add, Sub, Eq, Lts}
use Rattle.cg_word.specs.Word.{words, code, arity, all_ops, name_of}
use Rattle.cg_model.specs.Names.{is_identifier}
use Rattle.cg_loop_syntax.specs.declared.syntax.Atom.{Atom, Row_of-Expr, end_of-Expr, more_of-Expr}
use Rattle.cg_loop_syntax.specs.declared.syntax.Atom.TheVariants as atoms
use Rattle.cg_loop_syntax.specs.declared.syntax.Expr.{Expr, Expr', Held-Expr-compare, None', Some'}
use Rattle.cg_loop_syntax.specs.declared.syntax.Compare.{Compare, Compare'}
use Rattle.cg_loop_syntax.specs.declared.syntax.Sum.{Sum, Sum', Row_of-Term, end_of-Term, more_of-Term, Row_of-Atom, end_of-Atom, more_of-Atom}
use Rattle.cg_loop_syntax.specs.declared.syntax.Term.{Term}
use Rattle.cg_loop_syntax.specs.declared.body.Decl.{Decl}
use Rattle.cg_loop_syntax.specs.declared.body.Decl.TheVariants.{Array, Carry}
use Rattle.cg_loop_syntax.specs.declared.body.Stmt.{Stmt}
use Rattle.cg_loop_syntax.specs.declared.body.Stmt.TheVariants.{Bind, Assign, Put, Emit}
use Rattle.cg_loop_syntax.specs.Grouped.{grouped}
use Rattle.cg_loop_syntax.specs.Uses.{is_ruled}

-- the operations that an expression may name, or write as a sign: those on words alone
abbrev pub is_word_op : Op → Bool
is_word_op op = nat_le 4 (code op) && nat_le (code op) 19

-- the keywords of the language
abbrev pub is_keyword : List ℕ → Bool
is_keyword t =
    bytes_eq t (codes "cgl1") || bytes_eq t (codes "array") || bytes_eq t (codes "at") || bytes_eq t (codes "len") || bytes_eq t (codes "carry")
    || bytes_eq t (codes "let") || bytes_eq t (codes "out") || bytes_eq t (codes "if") || bytes_eq t (codes "in") || bytes_eq t (codes "turn")

-- the name of an operation that an expression may name
abbrev pub is_op_name : List ℕ → Bool
is_op_name t = list_any (λ op. is_word_op op && bytes_eq (name_of op) t) all_ops

-- a name that a body may declare
abbrev pub is_loop_name : List ℕ → Bool
is_loop_name t = is_identifier t && not (is_keyword t || is_op_name t)

-- the greatest number of brackets that may be open at once
abbrev pub most_open : ℕ
most_open = 32

abbrev pub is_adding : Op → Bool
is_adding Add = true
is_adding Sub = true
is_adding _ = false

abbrev pub is_comparing : Op → Bool
is_comparing Eq = true
is_comparing Lts = true
is_comparing _ = false

-- there is an atom
abbrev pub is_full : {m : _} → Row_of-Atom m → Bool
is_full end_of-Atom = false
is_full (more_of-Atom a rest) = true

abbrev pub count : {m : _} → Row_of-Expr m → ℕ
count end_of-Expr = 0
count (more_of-Expr e rest) = suc (count rest)

-- while `room` more brackets may be opened
abbrev mutual
  pub is_well_expr : ℕ → Expr → Bool
  is_well_expr room (Expr' first compare) = is_well_sum room first && is_well_compared room compare

  pub is_well_compared : ℕ → Held-Expr-compare → Bool
  is_well_compared room None' = true
  is_well_compared room (Some' c) = is_well_compare room c

  pub is_well_compare : ℕ → Compare → Bool
  is_well_compare room (Compare' op second) = is_comparing op && is_well_sum room second

  pub is_well_sum : ℕ → Sum → Bool
  is_well_sum room (Sum' shape atoms shape' rest) = (is_full atoms && are_well_atoms room atoms) && are_well_terms room rest

  pub are_well_terms : {m : _} → ℕ → Row_of-Term m → Bool
  are_well_terms room end_of-Term = true
  are_well_terms room (more_of-Term op shape atoms rest) = (is_adding op && (is_full atoms && are_well_atoms room atoms)) && are_well_terms room rest

  pub are_well_atoms : {m : _} → ℕ → Row_of-Atom m → Bool
  are_well_atoms room end_of-Atom = true
  are_well_atoms room (more_of-Atom a rest) = is_well_atom room a && are_well_atoms room rest

  pub is_well_atom : ℕ → Atom → Bool
  is_well_atom room (atoms.Num w) = nat_lt w words
  is_well_atom room atoms.Turn = true
  is_well_atom room (atoms.Input p) = true
  is_well_atom room (atoms.Scalar x) = is_loop_name x
  is_well_atom room (atoms.Item' a p e) = (nat_lt 0 room && is_loop_name a) && is_well_expr (room - 1) e
  is_well_atom room (atoms.Bracket' p e) = nat_lt 0 room && is_well_expr (room - 1) e
  is_well_atom room (atoms.Apply' op shape es) = (nat_lt 0 room && (is_word_op op && eqb (count es) (arity op))) && are_well_exprs (room - 1) es

  pub are_well_exprs : {m : _} → ℕ → Row_of-Expr m → Bool
  are_well_exprs room end_of-Expr = true
  are_well_exprs room (more_of-Expr e rest) = is_well_expr room e && are_well_exprs room rest

-- ---- over the lists in the types

abbrev pub has_atom : List Atom → Bool
has_atom [] = false
has_atom (a ∷ rest) = true

-- a product has an atom, and its atoms keep the rules
abbrev pub is_well_product : ℕ → List Atom → Bool
is_well_product room atoms = has_atom atoms && list_all (is_well_atom room) atoms

abbrev pub is_well_term : ℕ → Term → Bool
is_well_term room t = is_adding t.op && is_well_product room t.prod.atoms.items

-- ---- statements and declarations

abbrev pub is_well_guard : Option Expr → Bool
is_well_guard None = true
is_well_guard (Some g) = is_well_expr most_open g

-- the index of a store is inside a bracket
abbrev pub is_well_stmt : Stmt → Bool
is_well_stmt (Bind x e) = is_loop_name x && is_well_expr most_open e
is_well_stmt (Assign x e) = is_loop_name x && is_well_expr most_open e
is_well_stmt (Put a ix v g) = (is_loop_name a && is_well_expr 31 ix) && (is_well_expr most_open v && is_well_guard g)
is_well_stmt (Emit p v g) = is_well_expr most_open v && is_well_guard g

abbrev pub is_well_decl : Decl → Bool
is_well_decl (Array x at len) = is_loop_name x
is_well_decl (Carry x start) = is_loop_name x && nat_lt start words

abbrev pub AreWellStmts : List Stmt → Type 0
AreWellStmts stmts = AllPass is_well_stmt stmts

pub record IsWell (decls : List Decl) (stmts : List Stmt) : Type 0 where
  pub named : AllPass is_well_decl decls
  pub well : AreWellStmts stmts
  pub ruled : is_ruled (grouped decls stmts) ≡ true
