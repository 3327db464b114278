-- What reading finds: parts of a loop body, the trees of their tokens, and their uses of names and ports.
use Rattle.std.specs.Prelude.{◌≡◌, ℕ, true, ◌&&◌, codes, List, ◌∷◌, ◌++◌, map}
use Rattle.std.specs.List.{list_all}
use Rattle.cg_loop_syntax.specs.declared.syntax.Atom.{Atom}
use Rattle.cg_loop_syntax.specs.declared.syntax.Prod.{Prod}
use Rattle.cg_loop_syntax.specs.declared.syntax.Sum.{Sum}
use Rattle.cg_loop_syntax.specs.declared.syntax.Term.{Term}
use Rattle.cg_loop_syntax.specs.declared.syntax.Expr.{Expr}
use Rattle.cg_loop_syntax.specs.Grouped.{expr_of, sum_of, atom_of, product, whole_prod, terms}
use Rattle.cg_loop_syntax.specs.Well.{is_well_expr, is_well_sum, is_well_atom, is_well_product, is_well_term}
use Rattle.cg_loop_text_spec.specs.Grammar as grammar
use Rattle.cg_loop_text_spec.specs.Grammar.{expr_tokens, sum_tokens, prod_tokens, atom_tokens, args_tokens, IsExpr, IsSum, IsProd, IsAtom, IsArgs}
use Rattle.cg_loop_text_spec.specs.Meaning.{expr_value, sum_value, prod_value, atom_value, args_values, expr_uses, sum_uses, prod_uses, atom_uses, args_uses}
use Rattle.cg_loop_text_spec.specs.Read as read
use Rattle.cg_tokens.specs.declared.token.Token.{Token}
use Rattle.cg_tokens.specs.Tokens.{Placed, seen}
use Rattle.cg_loop_reader.specs.declared.reader.Reader.{Reader}
use Rattle.cg_loop_reader.specs.declared.fault.Misfit.{Misfit}
use Rattle.cg_loop_reader.specs.declared.fault.Misfit.TheVariants.{Memory, Text}
use Rattle.cg_loop_reader.specs.Left.{left, noted}

-- an atom is read
pub record FindsAtom (room : ℕ) (a : Atom) (old new : Reader) : Type 0 where
  pub tree : grammar.Atom
  pub is : IsAtom room tree
  pub spelled : left old ≡ atom_tokens tree ++ left new
  pub noted : noted new ≡ noted old ++ atom_uses tree
  pub value : atom_of a ≡ atom_value tree
  pub well : is_well_atom room a ≡ true
  pub ran : read.ReadsAtom room (left old) (left new)

-- after a name its index, or nothing, is read
pub record FindsIndex (room : ℕ) (name : Token) (a : Atom) (old new : Reader) : Type 0 where
  pub tree : grammar.Atom
  pub is : IsAtom room tree
  pub spelled : seen name ∷ left old ≡ atom_tokens tree ++ left new
  pub noted : noted new ≡ noted old ++ atom_uses tree
  pub value : atom_of a ≡ atom_value tree
  pub well : is_well_atom room a ≡ true
  pub ran : read.ReadsIndex room (left old) (left new)

-- atoms are read, and the signs between them
pub record FindsProduct (room : ℕ) (atoms : List Atom) (old new : Reader) : Type 0 where
  pub tree : grammar.Prod
  pub is : IsProd room tree
  pub spelled : left old ≡ prod_tokens tree ++ left new
  pub noted : noted new ≡ noted old ++ prod_uses tree
  pub value : product atoms ≡ prod_value tree
  pub well : is_well_product room atoms ≡ true
  pub ran : read.ReadsAtom room (left old) (left new)

-- products are read, and the signs between them
pub record FindsTerms (room : ℕ) (first : Prod) (rest : List Term) (old new : Reader) : Type 0 where
  pub tree : grammar.Sum
  pub is : IsSum room tree
  pub spelled : left old ≡ sum_tokens tree ++ left new
  pub noted : noted new ≡ noted old ++ sum_uses tree
  pub value : terms (whole_prod first) rest ≡ sum_value tree
  pub well : (is_well_product room first.atoms.items && list_all (is_well_term room) rest) ≡ true
  pub ran : read.ReadsAtom room (left old) (left new)

-- a sum is read
pub record FindsSum (room : ℕ) (s : Sum) (old new : Reader) : Type 0 where
  pub tree : grammar.Sum
  pub is : IsSum room tree
  pub spelled : left old ≡ sum_tokens tree ++ left new
  pub noted : noted new ≡ noted old ++ sum_uses tree
  pub value : sum_of s ≡ sum_value tree
  pub well : is_well_sum room s ≡ true
  pub ran : read.ReadsAtom room (left old) (left new)

-- an expression is read, up to what ends it
pub record FindsExpr (room : ℕ) (e : Expr) (old new : Reader) : Type 0 where
  pub tree : grammar.Expr
  pub is : IsExpr room tree
  pub spelled : left old ≡ expr_tokens tree ++ left new
  pub noted : noted new ≡ noted old ++ expr_uses tree
  pub value : expr_of e ≡ expr_value tree
  pub well : is_well_expr room e ≡ true
  pub ran : read.ReadsExpr room (left old) (left new)

-- an operand and n more are read, and the bracket after them
pub record FindsOperands (room n : ℕ) (before after : List Expr) (old new : Reader) : Type 0 where
  pub tree : grammar.Args
  pub closing : Placed
  pub found : List Expr
  pub is : IsArgs room n tree
  pub closes : closing.text ≡ codes ")"
  pub spelled : left old ≡ args_tokens tree ++ closing ∷ left new
  pub appended : after ≡ before ++ found
  pub noted : noted new ≡ noted old ++ args_uses tree
  pub values : map expr_of found ≡ args_values tree
  pub well : list_all (is_well_expr room) found ≡ true
  pub ran : read.ReadsArgs room n (left old) (left new)

abbrev pub MissesAtom : Misfit → ℕ → Reader → Reader → Type 0
MissesAtom Memory room old new = Unit {0}
MissesAtom Text room old new = read.StopsAtom room (left old) (left new)

abbrev pub MissesIndex : Misfit → ℕ → Reader → Reader → Type 0
MissesIndex Memory room old new = Unit {0}
MissesIndex Text room old new = read.StopsIndex room (left old) (left new)

abbrev pub MissesExpr : Misfit → ℕ → Reader → Reader → Type 0
MissesExpr Memory room old new = Unit {0}
MissesExpr Text room old new = read.StopsExpr room (left old) (left new)

abbrev pub MissesArgs : Misfit → ℕ → ℕ → Reader → Reader → Type 0
MissesArgs Memory room n old new = Unit {0}
MissesArgs Text room n old new = read.StopsArgs room n (left old) (left new)
