-- The text of a loop body as the tree of its tokens: each leaf is a token, with the place where it begins.
use Rattle.std.specs.Prelude.{◌≡◌, ℕ, suc, true, List, [], ◌∷◌, ◌++◌, codes, Some}
use Rattle.std.specs.List.{flat_map, AllByRecursion}
use Rattle.cg_word.specs.declared.op.Op.{Op}
use Rattle.cg_word.specs.Word.{arity}
use Rattle.cg_tokens.specs.Tokens.{Placed}
use Rattle.cg_loop_syntax.specs.Well.{is_loop_name, most_open}
use Rattle.cg_loop_text_spec.specs.Words.{is_number, op_called, added_by, compared_by}

-- ---- trees

mutual
  -- sum [("==" | "<") sum]
  pub data Expr : Type 0 where
    Plain : Sum → Expr
    Compared : Sum → (sign : Placed) → Sum → Expr

  -- prod {("+" | "-") prod}
  pub data Sum : Type 0 where
    Sums : Prod → Terms → Sum

  pub data Terms : Type 0 where
    NoTerms : Terms
    Term : (sign : Placed) → Prod → Terms → Terms

  -- atom {"*" atom}
  pub data Prod : Type 0 where
    Prods : Atom → Factors → Prod

  pub data Factors : Type 0 where
    NoFactors : Factors
    Factor : (star : Placed) → Atom → Factors → Factors

  -- NUM | "turn" | "in" NUM | NAME | NAME "[" expr "]" | "(" expr ")" | OP "(" expr {"," expr} ")"
  pub data Atom : Type 0 where
    Number : (number : Placed) → Atom
    Turn : (turn : Placed) → Atom
    Input : (in_word port : Placed) → Atom
    Scalar : (name : Placed) → Atom
    Item : (name opens : Placed) → Expr → (closes : Placed) → Atom
    Bracket : (opens : Placed) → Expr → (closes : Placed) → Atom
    Apply : (op opens : Placed) → Args → (closes : Placed) → Atom

  pub data Args : Type 0 where
    One : Expr → Args
    More : Expr → (comma : Placed) → Args → Args

-- ["if" expr]
pub data Guard : Type 0 where
  NoGuard : Guard
  If : (if_word : Placed) → Expr → Guard

-- "let" NAME "=" expr ";" | NAME "=" expr ";" | NAME "[" expr "]" "=" expr ["if" expr] ";" |
-- "out" NUM "=" expr ["if" expr] ";"
pub data Stmt : Type 0 where
  Let : (let_word name sign : Placed) → Expr → (end : Placed) → Stmt
  Assign : (name sign : Placed) → Expr → (end : Placed) → Stmt
  Store : (name opens : Placed) → Expr → (closes sign : Placed) → Expr → Guard → (end : Placed) → Stmt
  Out : (out_word port sign : Placed) → Expr → Guard → (end : Placed) → Stmt

-- "array" NAME "at" NUM "len" NUM ";" | "carry" NAME "=" NUM ";"
pub data Decl : Type 0 where
  Array : (array_word name at_word at len_word len end : Placed) → Decl
  Carry : (carry_word name sign start end : Placed) → Decl

-- "cgl1" ";" {decl} {stmt}
pub record Text : Type 0 where
  pub format : Placed
  pub end : Placed
  pub decls : List Decl
  pub stmts : List Stmt

-- ---- the tokens of a tree

abbrev mutual
  pub expr_tokens : Expr → List Placed
  expr_tokens (Plain s) = sum_tokens s
  expr_tokens (Compared s sign r) = sum_tokens s ++ (sign ∷ sum_tokens r)

  pub sum_tokens : Sum → List Placed
  sum_tokens (Sums p ts) = prod_tokens p ++ terms_tokens ts

  pub terms_tokens : Terms → List Placed
  terms_tokens NoTerms = []
  terms_tokens (Term sign p ts) = sign ∷ (prod_tokens p ++ terms_tokens ts)

  pub prod_tokens : Prod → List Placed
  prod_tokens (Prods a fs) = atom_tokens a ++ factors_tokens fs

  pub factors_tokens : Factors → List Placed
  factors_tokens NoFactors = []
  factors_tokens (Factor star a fs) = star ∷ (atom_tokens a ++ factors_tokens fs)

  pub atom_tokens : Atom → List Placed
  atom_tokens (Number t) = t ∷ []
  atom_tokens (Turn t) = t ∷ []
  atom_tokens (Input t p) = t ∷ p ∷ []
  atom_tokens (Scalar t) = t ∷ []
  atom_tokens (Item t opens e closes) = t ∷ opens ∷ (expr_tokens e ++ (closes ∷ []))
  atom_tokens (Bracket opens e closes) = opens ∷ (expr_tokens e ++ (closes ∷ []))
  atom_tokens (Apply op opens args closes) = op ∷ opens ∷ (args_tokens args ++ (closes ∷ []))

  pub args_tokens : Args → List Placed
  args_tokens (One e) = expr_tokens e
  args_tokens (More e comma args) = expr_tokens e ++ (comma ∷ args_tokens args)

abbrev pub guard_tokens : Guard → List Placed
guard_tokens NoGuard = []
guard_tokens (If word e) = word ∷ expr_tokens e

abbrev pub stmt_tokens : Stmt → List Placed
stmt_tokens (Let word name sign e end) = word ∷ name ∷ sign ∷ (expr_tokens e ++ (end ∷ []))
stmt_tokens (Assign name sign e end) = name ∷ sign ∷ (expr_tokens e ++ (end ∷ []))
stmt_tokens (Store name opens ix closes sign e g end) = name ∷ opens ∷ (expr_tokens ix ++ (closes ∷ sign ∷ (expr_tokens e ++ (guard_tokens g ++ (end ∷ [])))))
stmt_tokens (Out word port sign e g end) = word ∷ port ∷ sign ∷ (expr_tokens e ++ (guard_tokens g ++ (end ∷ [])))

abbrev pub decl_tokens : Decl → List Placed
decl_tokens (Array word name at_word at len_word len end) = word ∷ name ∷ at_word ∷ at ∷ len_word ∷ len ∷ end ∷ []
decl_tokens (Carry word name sign start end) = word ∷ name ∷ sign ∷ start ∷ end ∷ []

abbrev pub text_tokens : Text → List Placed
text_tokens t = t.format ∷ t.end ∷ (flat_map decl_tokens t.decls ++ flat_map stmt_tokens t.stmts)

-- ---- the trees that the grammar allows

abbrev pub Is : Placed → List ℕ → Type 0
Is t s = t.text ≡ s

abbrev pub IsName : Placed → Type 0
IsName t = is_loop_name t.text ≡ true

abbrev pub IsNumber : Placed → Type 0
IsNumber t = is_number t.text ≡ true

-- the words and signs are those of the grammar, an operation has its operands, and at most `room` more brackets are
-- open at once
abbrev mutual
  pub IsExpr : ℕ → Expr → Type 0
  IsExpr room (Plain s) = IsSum room s
  IsExpr room (Compared s sign r) = IsSum room s × ((op : Op) × (compared_by sign.text ≡ Some op)) × IsSum room r

  pub IsSum : ℕ → Sum → Type 0
  IsSum room (Sums p ts) = IsProd room p × IsTerms room ts

  pub IsTerms : ℕ → Terms → Type 0
  IsTerms room NoTerms = Unit {0}
  IsTerms room (Term sign p ts) = ((op : Op) × (added_by sign.text ≡ Some op)) × IsProd room p × IsTerms room ts

  pub IsProd : ℕ → Prod → Type 0
  IsProd room (Prods a fs) = IsAtom room a × IsFactors room fs

  pub IsFactors : ℕ → Factors → Type 0
  IsFactors room NoFactors = Unit {0}
  IsFactors room (Factor star a fs) = Is star (codes "*") × IsAtom room a × IsFactors room fs

  pub IsAtom : ℕ → Atom → Type 0
  IsAtom room (Number t) = IsNumber t
  IsAtom room (Turn t) = Is t (codes "turn")
  IsAtom room (Input t p) = Is t (codes "in") × IsNumber p
  IsAtom room (Scalar t) = IsName t
  IsAtom room (Item t opens e closes) = IsName t × Is opens (codes "[") × Is closes (codes "]") × ((less : ℕ) × (room ≡ suc less) × IsExpr less e)
  IsAtom room (Bracket opens e closes) = Is opens (codes "(") × Is closes (codes ")") × ((less : ℕ) × (room ≡ suc less) × IsExpr less e)
  IsAtom room (Apply op opens args closes) =
      Is opens (codes "(") × Is closes (codes ")") × ((o : Op) × (n : ℕ) × (less : ℕ) × (op_called op.text ≡ Some o) × (arity o ≡ suc n) × (room ≡ suc less) × IsArgs less n args)

  -- n more operands follow the first
  pub IsArgs : ℕ → ℕ → Args → Type 0
  IsArgs room n (One e) = (n ≡ 0) × IsExpr room e
  IsArgs room n (More e comma args) = Is comma (codes ",") × ((m : ℕ) × (n ≡ suc m) × IsExpr room e × IsArgs room m args)

abbrev pub IsGuard : Guard → Type 0
IsGuard NoGuard = Unit {0}
IsGuard (If word e) = Is word (codes "if") × IsExpr most_open e

-- the index of a store is inside a bracket
abbrev pub IsStmt : Stmt → Type 0
IsStmt (Let word name sign e end) = Is word (codes "let") × IsName name × Is sign (codes "=") × IsExpr most_open e × Is end (codes ";")
IsStmt (Assign name sign e end) = IsName name × Is sign (codes "=") × IsExpr most_open e × Is end (codes ";")
IsStmt (Store name opens ix closes sign e g end) =
    (IsName name × Is opens (codes "[") × IsExpr 31 ix × Is closes (codes "]")) × (Is sign (codes "=") × IsExpr most_open e × IsGuard g × Is end (codes ";"))
IsStmt (Out word port sign e g end) = (Is word (codes "out") × IsNumber port × Is sign (codes "=")) × (IsExpr most_open e × IsGuard g × Is end (codes ";"))

abbrev pub IsDecl : Decl → Type 0
IsDecl (Array word name at_word at len_word len end) =
    (Is word (codes "array") × IsName name × Is at_word (codes "at") × IsNumber at) × (Is len_word (codes "len") × IsNumber len × Is end (codes ";"))
IsDecl (Carry word name sign start end) = (Is word (codes "carry") × IsName name) × (Is sign (codes "=") × IsNumber start × Is end (codes ";"))

pub record IsText (t : Text) : Type 0 where
  pub format : Is t.format (codes "cgl1")
  pub end : Is t.end (codes ";")
  pub decls : AllByRecursion IsDecl t.decls
  pub stmts : AllByRecursion IsStmt t.stmts

-- the tokens are those of a file
abbrev pub IsFile : List Placed → Type 0
IsFile tokens = (t : Text) × IsText t × (tokens ≡ text_tokens t)
