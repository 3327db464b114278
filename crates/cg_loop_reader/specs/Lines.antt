-- What reading finds: values with the tokens around them, statements and declarations.
use Rattle.std.specs.Prelude.{◌≡◌, true, false, ◌⊎◌, codes, List, [], ◌∷◌, ◌++◌, map, Option}
use Rattle.std.specs.List.{list_all, flat_map, AllByRecursion}
use Rattle.cg_tokens.specs.Tokens.{Placed, seen}
use Rattle.cg_tokens.specs.declared.token.Token.{Token}
use Rattle.cg_loop_syntax.specs.declared.syntax.Expr.{Expr}
use Rattle.cg_loop_syntax.specs.declared.body.Decl.{Decl}
use Rattle.cg_loop_syntax.specs.declared.body.Stmt.{Stmt}
use Rattle.cg_loop_syntax.specs.Grouped.{expr_of, guard_of, stmt_of}
use Rattle.cg_loop_syntax.specs.Well.{is_well_expr, is_well_guard, is_well_stmt, is_well_decl, most_open}
use Rattle.cg_loop_text_spec.specs.Grammar as grammar
use Rattle.cg_loop_text_spec.specs.Grammar.{Is, IsExpr, IsGuard, IsStmt, IsDecl, expr_tokens, guard_tokens, stmt_tokens, decl_tokens}
use Rattle.cg_loop_text_spec.specs.Meaning.{expr_value, guard_value, stmt_value, decl_value, expr_uses, guard_uses, stmt_uses, decl_use, decls_uses}
use Rattle.cg_loop_text_spec.specs.Rules.{Exactly, Operand, Semicolon, Guarded as GuardedCloser, Target}
use Rattle.cg_loop_text_spec.specs.Read as read
use Rattle.cg_loop_reader.specs.declared.lines.Guarded.{Guarded}
use Rattle.cg_loop_reader.specs.declared.reader.Reader.{Reader}
use Rattle.cg_loop_reader.specs.declared.fault.Misfit.{Misfit}
use Rattle.cg_loop_reader.specs.declared.fault.Misfit.TheVariants.{Memory, Text}
use Rattle.cg_loop_reader.specs.Left.{left, noted, Takes}
use Rattle.cg_loop_reader.specs.Found.{FindsExpr}

-- = value ;
pub record FindsValue (e : Expr) (old new : Reader) : Type 0 where
  pub sign : Placed
  pub tree : grammar.Expr
  pub end : Placed
  pub sign_is : Is sign (codes "=")
  pub is : IsExpr most_open tree
  pub end_is : Is end (codes ";")
  pub spelled : left old ≡ sign ∷ ((expr_tokens tree ++ (end ∷ [])) ++ left new)
  pub noted : noted new ≡ noted old ++ expr_uses tree
  pub value : expr_of e ≡ expr_value tree
  pub well : is_well_expr most_open e ≡ true
  pub ran : read.Reads (Exactly (codes "=") ∷ Operand Semicolon false most_open ∷ []) (left old) (left new)

-- a guard, or none
pub record FindsGuard (g : Option Expr) (old new : Reader) : Type 0 where
  pub tree : grammar.Guard
  pub is : IsGuard tree
  pub spelled : left old ≡ guard_tokens tree ++ left new
  pub noted : noted new ≡ noted old ++ guard_uses tree
  pub value : guard_of g ≡ guard_value tree
  pub well : is_well_guard g ≡ true
  pub ran : read.ReadsGuard (left old) (left new)

-- = value, a guard or none, ;
pub record FindsGuarded (v : Guarded) (old new : Reader) : Type 0 where
  pub sign : Placed
  pub tree : grammar.Expr
  pub guard : grammar.Guard
  pub end : Placed
  pub sign_is : Is sign (codes "=")
  pub is : IsExpr most_open tree
  pub guard_is : IsGuard guard
  pub end_is : Is end (codes ";")
  pub spelled : left old ≡ sign ∷ ((expr_tokens tree ++ (guard_tokens guard ++ (end ∷ []))) ++ left new)
  pub noted : noted new ≡ noted old ++ (expr_uses tree ++ guard_uses guard)
  pub value : expr_of v.value ≡ expr_value tree
  pub guard_value : guard_of v.guard ≡ guard_value guard
  pub well : is_well_expr most_open v.value ≡ true
  pub guard_well : is_well_guard v.guard ≡ true
  pub ran : read.Reads (Exactly (codes "=") ∷ Operand GuardedCloser false most_open ∷ []) (left old) (left new)

-- [ index ]
pub record FindsPlace (e : Expr) (old new : Reader) : Type 0 where
  pub inside : Reader
  pub end : Reader
  pub opens : Takes (codes "[") old inside
  pub index : FindsExpr 31 e inside end
  pub closes : Takes (codes "]") end new

-- after a name the rest of a statement that begins with it
pub record FindsChange (name : Token) (s : Stmt) (old new : Reader) : Type 0 where
  pub tree : grammar.Stmt
  pub is : IsStmt tree
  pub spelled : seen name ∷ left old ≡ stmt_tokens tree ++ left new
  pub noted : noted new ≡ noted old ++ stmt_uses tree
  pub value : stmt_of s ≡ stmt_value tree
  pub well : is_well_stmt s ≡ true
  pub ran : read.Reads (Target ∷ []) (left old) (left new)

-- a statement
pub record FindsStmt (s : Stmt) (old new : Reader) : Type 0 where
  pub tree : grammar.Stmt
  pub is : IsStmt tree
  pub spelled : left old ≡ stmt_tokens tree ++ left new
  pub noted : noted new ≡ noted old ++ stmt_uses tree
  pub value : stmt_of s ≡ stmt_value tree
  pub well : is_well_stmt s ≡ true
  pub ran : read.ReadsLines false false (left old) (left new)

-- statements, one after another
pub record FindsStmts (ss : List Stmt) (old new : Reader) : Type 0 where
  pub trees : List grammar.Stmt
  pub are : AllByRecursion IsStmt trees
  pub spelled : left old ≡ flat_map stmt_tokens trees ++ left new
  pub noted : noted new ≡ noted old ++ flat_map stmt_uses trees
  pub value : map stmt_of ss ≡ map stmt_value trees
  pub well : list_all is_well_stmt ss ≡ true
  pub ran : read.ReadsLines false false (left old) (left new)

-- a declaration
pub record FindsDecl (d : Decl) (old new : Reader) : Type 0 where
  pub tree : grammar.Decl
  pub is : IsDecl tree
  pub spelled : left old ≡ decl_tokens tree ++ left new
  pub noted : noted new ≡ noted old ++ decl_use tree ∷ []
  pub value : d ≡ decl_value tree
  pub well : is_well_decl d ≡ true
  pub ran : read.ReadsLines true true (left old) (left new)

-- declarations, one after another
pub record FindsDecls (ds : List Decl) (old new : Reader) : Type 0 where
  pub trees : List grammar.Decl
  pub are : AllByRecursion IsDecl trees
  pub spelled : left old ≡ flat_map decl_tokens trees ++ left new
  pub noted : noted new ≡ noted old ++ decls_uses trees
  pub value : ds ≡ map decl_value trees
  pub well : list_all is_well_decl ds ≡ true
  pub ran : read.ReadsLines true true (left old) (left new)

abbrev pub MissesGuard : Misfit → Reader → Reader → Type 0
MissesGuard Memory old new = Unit {0}
MissesGuard Text old new = read.StopsGuard (left old) (left new)

-- the word begins a declaration
abbrev pub IsDeclWord : Token → Type 0
IsDeclWord token = (token.text.now ≡ codes "array") ⊎ (token.text.now ≡ codes "carry")
