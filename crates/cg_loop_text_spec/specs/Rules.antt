-- The grammar as a table: each rule begins with a token. A symbol has what ends its expression, whether it is already
-- compared, and how many more brackets may be opened. The last token of a file is followed by one more, which has no
-- bytes.
use Rattle.std.specs.Prelude.{◌≡◌, ℕ, zero, suc, Bool, true, false, ◌&&◌, ◌||◌, not, List, [], ◌∷◌, ◌++◌, codes, bytes_eq, Option, Some, None, is_some, if◌then◌else◌}
use Rattle.std.specs.List.{flat_map, AllByRecursion}
use Rattle.cg_word.specs.declared.op.Op.{Op}
use Rattle.cg_word.specs.Word.{arity}
use Rattle.cg_tokens.specs.Tokens.{Placed}
use Rattle.cg_loop_syntax.specs.Well.{is_loop_name, most_open}
use Rattle.cg_loop_text_spec.specs.Words.{is_number, op_called, added_by, compared_by}
use Rattle.cg_loop_text_spec.specs.Grammar.{Expr, Sum, Terms, Factors, Atom, Args, Guard, Stmt, Decl, expr_tokens, sum_tokens, terms_tokens, factors_tokens, atom_tokens, args_tokens, guard_tokens, stmt_tokens, decl_tokens, Is, IsName, IsNumber, IsExpr, IsSum, IsTerms, IsFactors, IsAtom, IsArgs, IsGuard, IsStmt, IsDecl}

-- what ends an expression: ) or ], or further operands and ), or ; or a guard and ;
pub data Closer : Type 0 where
  Round Square Semicolon Guarded : Closer
  Further : ℕ → Closer

-- a token, any name, any number; an operand and what follows it; what follows a name; what follows an operand; the end
-- of an expression; what follows the name that a statement begins with; the lines of a file, with declarations or
-- without, and its end
pub data Symbol : Type 0 where
  Exactly : List ℕ → Symbol
  Name Digits : Symbol
  Operand : Closer → Bool → ℕ → Symbol
  Named : Closer → Bool → ℕ → Symbol
  After : Closer → Bool → ℕ → Symbol
  Close : Closer → ℕ → Symbol
  Target : Symbol
  Lines : Bool → Symbol

abbrev pub same : List ℕ → List ℕ → Bool
same s t = bytes_eq s t

abbrev pub close_rule : Closer → ℕ → List ℕ → Option (List Symbol)
close_rule Round room t = if same t (codes ")") then Some [] else None
close_rule Square room t = if same t (codes "]") then Some [] else None
close_rule Semicolon room t = if same t (codes ";") then Some [] else None
close_rule Guarded room t = if same t (codes ";") then Some [] else (if same t (codes "if") then Some (Operand Semicolon false most_open ∷ []) else None)
close_rule (Further zero) room t = if same t (codes ")") then Some [] else None
close_rule (Further (suc n)) room t = if same t (codes ",") then Some (Operand (Further n) false room ∷ []) else None

abbrev pub after_rule : Closer → Bool → ℕ → List ℕ → Option (List Symbol)
after_rule c compared room t =
    if same t (codes "*") || is_some (added_by t) then Some (Operand c compared room ∷ [])
    else (if is_some (compared_by t) && not compared then Some (Operand c true room ∷ []) else close_rule c room t)

abbrev pub index_rule : Closer → Bool → ℕ → Option (List Symbol)
index_rule c compared zero = None
index_rule c compared (suc room) = Some (Operand Square false room ∷ After c compared (suc room) ∷ [])

abbrev pub less_one : ℕ → Option ℕ
less_one zero = None
less_one (suc n) = Some n

-- the number of operands that an operation has after its first
abbrev pub further_of : Option Op → Option ℕ
further_of None = None
further_of (Some op) = less_one (arity op)

abbrev pub apply_rule : Closer → Bool → ℕ → Option ℕ → Option (List Symbol)
apply_rule c compared room None = None
apply_rule c compared room (Some n) = Some (Exactly (codes "(") ∷ Operand (Further n) false room ∷ After c compared (suc room) ∷ [])

abbrev pub open_rule : Closer → Bool → ℕ → List ℕ → Option (List Symbol)
open_rule c compared zero t = None
open_rule c compared (suc room) t =
    if same t (codes "(") then Some (Operand Round false room ∷ After c compared (suc room) ∷ []) else apply_rule c compared room (further_of (op_called t))

abbrev pub operand_rule : Closer → Bool → ℕ → List ℕ → Option (List Symbol)
operand_rule c compared room t =
    if is_number t || same t (codes "turn") then Some (After c compared room ∷ [])
    else (if same t (codes "in") then Some (Digits ∷ After c compared room ∷ [])
    else (if is_loop_name t then Some (Named c compared room ∷ []) else open_rule c compared room t))

abbrev pub array_rule : List Symbol
array_rule = Name ∷ Exactly (codes "at") ∷ Digits ∷ Exactly (codes "len") ∷ Digits ∷ Exactly (codes ";") ∷ []

abbrev pub carry_rule : List Symbol
carry_rule = Name ∷ Exactly (codes "=") ∷ Digits ∷ Exactly (codes ";") ∷ []

abbrev pub let_rule : List Symbol
let_rule = Name ∷ Exactly (codes "=") ∷ Operand Semicolon false most_open ∷ []

abbrev pub out_rule : List Symbol
out_rule = Digits ∷ Exactly (codes "=") ∷ Operand Guarded false most_open ∷ []

-- a store after its [
abbrev pub store_rule : List Symbol
store_rule = Operand Square false 31 ∷ Exactly (codes "=") ∷ Operand Guarded false most_open ∷ []

abbrev pub stmt_rule : List ℕ → Option (List Symbol)
stmt_rule t =
    if same t (codes "let") then Some (let_rule ++ (Lines false ∷ []))
    else (if same t (codes "out") then Some (out_rule ++ (Lines false ∷ []))
    else (if is_loop_name t then Some (Target ∷ Lines false ∷ []) else None))

abbrev pub line_rule : Bool → List ℕ → Option (List Symbol)
line_rule decls t =
    if same t [] then Some []
    else (if decls && same t (codes "array") then Some (array_rule ++ (Lines true ∷ []))
    else (if decls && same t (codes "carry") then Some (carry_rule ++ (Lines true ∷ [])) else stmt_rule t))

abbrev pub target_rule : List ℕ → Option (List Symbol)
target_rule t =
    if same t (codes "=") then Some (Operand Semicolon false most_open ∷ [])
    else (if same t (codes "[") then Some store_rule else None)

abbrev pub rule_of : Symbol → List ℕ → Option (List Symbol)
rule_of (Exactly s) t = if same t s then Some [] else None
rule_of Name t = if is_loop_name t then Some [] else None
rule_of Digits t = if is_number t then Some [] else None
rule_of (Close c room) t = close_rule c room t
rule_of (After c compared room) t = after_rule c compared room t
rule_of (Named c compared room) t = if same t (codes "[") then index_rule c compared room else after_rule c compared room t
rule_of (Operand c compared room) t = operand_rule c compared room t
rule_of Target t = target_rule t
rule_of (Lines decls) t = line_rule decls t

abbrev pub rule : Symbol → Placed → Option (List Symbol)
rule s t = rule_of s t.text

abbrev pub start : List Symbol
start = Exactly (codes "cgl1") ∷ Exactly (codes ";") ∷ Lines true ∷ []

-- ---- the tokens of each symbol

pub data Compare : Type 0 where
  NoCompare : Compare
  Comparing : (sign : Placed) → Sum → Compare

-- what follows an operand up to the end of its expression
pub record Tail : Type 0 where
  pub factors : Factors
  pub terms : Terms
  pub compare : Compare

abbrev pub compare_tokens : Compare → List Placed
compare_tokens NoCompare = []
compare_tokens (Comparing sign s) = sign ∷ sum_tokens s

abbrev pub tail_tokens : Tail → List Placed
tail_tokens t = factors_tokens t.factors ++ (terms_tokens t.terms ++ compare_tokens t.compare)

abbrev pub IsCompare : Bool → ℕ → Compare → Type 0
IsCompare compared room NoCompare = Unit {0}
IsCompare compared room (Comparing sign s) = (compared ≡ false) × ((op : Op) × (compared_by sign.text ≡ Some op)) × IsSum room s

pub record IsTail (compared : Bool) (room : ℕ) (t : Tail) : Type 0 where
  pub factors : IsFactors room t.factors
  pub terms : IsTerms room t.terms
  pub compare : IsCompare compared room t.compare

-- one token
abbrev pub IsOne : List ℕ → List Placed → Type 0
IsOne s ts = (t : Placed) × Is t s × (ts ≡ t ∷ [])

abbrev pub Closes : Closer → ℕ → List Placed → Type 0
Closes Round room ts = IsOne (codes ")") ts
Closes Square room ts = IsOne (codes "]") ts
Closes Semicolon room ts = IsOne (codes ";") ts
Closes Guarded room ts = (g : Guard) × (end : Placed) × IsGuard g × Is end (codes ";") × (ts ≡ guard_tokens g ++ (end ∷ []))
Closes (Further zero) room ts = IsOne (codes ")") ts
Closes (Further (suc n)) room ts = (comma : Placed) × (args : Args) × (closes : Placed) × Is comma (codes ",") × IsArgs room n args × Is closes (codes ")") × (ts ≡ comma ∷ (args_tokens args ++ (closes ∷ [])))

pub data Index : Type 0 where
  NoIndex : Index
  At : (opens : Placed) → Expr → (closes : Placed) → Index

abbrev pub index_tokens : Index → List Placed
index_tokens NoIndex = []
index_tokens (At opens e closes) = opens ∷ (expr_tokens e ++ (closes ∷ []))

abbrev pub IsIndex : ℕ → Index → Type 0
IsIndex room NoIndex = Unit {0}
IsIndex room (At opens e closes) = Is opens (codes "[") × Is closes (codes "]") × ((less : ℕ) × (room ≡ suc less) × IsExpr less e)

-- what follows the name of an assignment or of a store
pub data Change : Type 0 where
  Sets : (sign : Placed) → Expr → (end : Placed) → Change
  Stores : (opens : Placed) → Expr → (closes sign : Placed) → Expr → Guard → (end : Placed) → Change

abbrev pub change_tokens : Change → List Placed
change_tokens (Sets sign e end) = sign ∷ (expr_tokens e ++ (end ∷ []))
change_tokens (Stores opens ix closes sign e g end) = opens ∷ (expr_tokens ix ++ (closes ∷ sign ∷ (expr_tokens e ++ (guard_tokens g ++ (end ∷ [])))))

abbrev pub IsChange : Change → Type 0
IsChange (Sets sign e end) = Is sign (codes "=") × IsExpr most_open e × Is end (codes ";")
IsChange (Stores opens ix closes sign e g end) = (Is opens (codes "[") × IsExpr 31 ix × Is closes (codes "]")) × (Is sign (codes "=") × IsExpr most_open e × IsGuard g × Is end (codes ";"))

abbrev pub Spells : Symbol → List Placed → Type 0
Spells (Exactly s) ts = IsOne s ts
Spells Name ts = (t : Placed) × IsName t × (ts ≡ t ∷ [])
Spells Digits ts = (t : Placed) × IsNumber t × (ts ≡ t ∷ [])
Spells (Close c room) ts = Closes c room ts
Spells (After c compared room) ts = (t : Tail) × (end : List Placed) × IsTail compared room t × Closes c room end × (ts ≡ tail_tokens t ++ end)
Spells (Named c compared room) ts = (i : Index) × (t : Tail) × (end : List Placed) × IsIndex room i × IsTail compared room t × Closes c room end × (ts ≡ index_tokens i ++ (tail_tokens t ++ end))
Spells (Operand c compared room) ts = (a : Atom) × (t : Tail) × (end : List Placed) × IsAtom room a × IsTail compared room t × Closes c room end × (ts ≡ atom_tokens a ++ (tail_tokens t ++ end))
Spells Target ts = (c : Change) × IsChange c × (ts ≡ change_tokens c)
Spells (Lines decls) ts =
    (ds : List Decl) × (ss : List Stmt) × (end : Placed) × AllByRecursion IsDecl ds × (decls ≡ false → ds ≡ []) × AllByRecursion IsStmt ss × Is end []
    × (ts ≡ flat_map decl_tokens ds ++ (flat_map stmt_tokens ss ++ (end ∷ [])))
