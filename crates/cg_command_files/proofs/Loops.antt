-- What bytes spell is a loop.
use Rattle.std.proofs.Common.{◌≡◌, ℕ, suc, Bool, true, false, cond, List, [], ◌∷◌, map, length, Some, None, refl, sym, ◌∙◌, ap, subst}
use Rattle.std.specs.Prelude.{◌&&◌, eqb, bytes_eq, codes, is_none, nat_lt}
use Rattle.std.specs.List.{list_all, AllByRecursion}
use Rattle.std.proofs.lemmas.Bool.{and_parts, and_from}
use Rattle.cg_word.specs.declared.op.Op.{Op}
use Rattle.cg_word.specs.declared.op.Op.TheVariants.{Add, Sub, Mul, Eq, Lts}
use Rattle.cg_word.specs.Word.{words, arity}
use Rattle.cg_loop_syntax.specs.Loop as plain
use Rattle.cg_loop_syntax.specs.Grouped.{applied}
use Rattle.cg_loop_syntax.specs.Uses.{fault_of}
use Rattle.cg_loop_syntax.specs.Well.{is_word_op, most_open}
use Rattle.cg_loop_text_spec.specs.Words.{number_of, is_number, added_by, compared_by, op_of}
use Rattle.cg_loop_text_spec.specs.Grammar.{Expr, Plain, Compared, Sum, Sums, Terms, NoTerms, Term, Prod, Prods, Factors, NoFactors, Factor, Atom, Number, Turn, Input, Scalar, Item, Bracket, Apply, Args, One, More, Guard, NoGuard, If, Stmt, Let, Assign, Store, Out, Decl, Array, Carry, Text, IsExpr, IsSum, IsTerms, IsProd, IsFactors, IsAtom, IsArgs, IsGuard, IsStmt, IsDecl, IsText}
use Rattle.cg_loop_text_spec.specs.Meaning.{expr_value, sum_value, terms_value, prod_value, factors_value, atom_value, args_values, guard_value, stmt_value, decl_value, text_body, text_uses}
use Rattle.cg_loop_text_spec.proofs.Texts.{op_name}
use Rattle.cg_loop_text_spec.proofs.Uses.{uses_of, fault_places}
use Rattle.cg_loop_laws.specs.Laws.{is_sound, is_sound_guard, is_sound_stmt, is_sound_decl, IsLoop}
use Rattle.cg_loop_laws.proofs.Rows.{two_sound, applied_sound}
use Rattle.cg_loop_reader.specs.Answer.{Spells}

-- ---- tokens

-- an operation of two words
abbrev IsOfTwo : Op → Type 0
IsOfTwo op = (is_word_op op && eqb (arity op) 2) ≡ true

added : (b c : Bool) (op : Op) → cond b (Some Add) (cond c (Some Sub) None) ≡ Some op → IsOfTwo (op_of (cond b (Some Add) (cond c (Some Sub) None)))
added true c op h = refl
added false true op h = refl
added false false op h = cc

compared : (b c : Bool) (op : Op) → cond b (Some Eq) (cond c (Some Lts) None) ≡ Some op → IsOfTwo (op_of (cond b (Some Eq) (cond c (Some Lts) None)))
compared true c op h = refl
compared false true op h = refl
compared false false op h = cc

adding : (t : List ℕ) (op : Op) → added_by t ≡ Some op → IsOfTwo (op_of (added_by t))
adding t op h = added (bytes_eq t (codes "+")) (bytes_eq t (codes "-")) op h

comparing : (t : List ℕ) (op : Op) → compared_by t ≡ Some op → IsOfTwo (op_of (compared_by t))
comparing t op h = compared (bytes_eq t (codes "==")) (bytes_eq t (codes "<")) op h

-- a number is a word
number_word : (t : List ℕ) → is_number t ≡ true → nat_lt (number_of t) words ≡ true
number_word t h = (and_parts _ (nat_lt (number_of t) words) h).1

-- ---- expressions

args_count : (r n : ℕ) (args : Args) → IsArgs r n args → length (args_values args) ≡ suc n
args_count r n (One e) h = ap suc (sym h.0)
args_count r n (More e comma args) h = ap suc (args_count r h.1.0 args h.1.3 ∙ sym h.1.1)

mutual
  expr_sound : (r : ℕ) (e : Expr) → IsExpr r e → is_sound (expr_value e) ≡ true
  expr_sound r (Plain s) h = sum_sound r s h
  expr_sound r (Compared s sign x) h = two_sound (op_of (compared_by sign.text)) (sum_value s) (sum_value x) (comparing sign.text h.1.0 h.1.1) (sum_sound r s h.0) (sum_sound r x h.2)

  sum_sound : (r : ℕ) (s : Sum) → IsSum r s → is_sound (sum_value s) ≡ true
  sum_sound r (Sums p ts) h = terms_sound r (prod_value p) ts (prod_sound r p h.0) h.1

  terms_sound : (r : ℕ) (e : plain.Expr) (ts : Terms) → is_sound e ≡ true → IsTerms r ts → is_sound (terms_value e ts) ≡ true
  terms_sound r e NoTerms s h = s
  terms_sound r e (Term sign p ts) s h =
      let op = op_of (added_by sign.text) in
      terms_sound r (plain.Two op e (prod_value p)) ts (two_sound op e (prod_value p) (adding sign.text h.0.0 h.0.1) s (prod_sound r p h.1)) h.2

  prod_sound : (r : ℕ) (p : Prod) → IsProd r p → is_sound (prod_value p) ≡ true
  prod_sound r (Prods a fs) h = factors_sound r (atom_value a) fs (atom_sound r a h.0) h.1

  factors_sound : (r : ℕ) (e : plain.Expr) (fs : Factors) → is_sound e ≡ true → IsFactors r fs → is_sound (factors_value e fs) ≡ true
  factors_sound r e NoFactors s h = s
  factors_sound r e (Factor star a fs) s h = factors_sound r (plain.Two Mul e (atom_value a)) fs (two_sound Mul e (atom_value a) refl s (atom_sound r a h.1)) h.2

  atom_sound : (r : ℕ) (a : Atom) → IsAtom r a → is_sound (atom_value a) ≡ true
  atom_sound r (Number t) h = number_word t.text h
  atom_sound r (Turn t) h = refl
  atom_sound r (Input t p) h = refl
  atom_sound r (Scalar t) h = refl
  atom_sound r (Item t opens e closes) h = expr_sound h.3.0 e h.3.2
  atom_sound r (Bracket opens e closes) h = expr_sound h.2.0 e h.2.2
  atom_sound r (Apply op opens args closes) h =
      let w = h.2 in
      subst (λ o. is_sound (applied (op_of o) (args_values args)) ≡ true) (sym w.3)
      (applied_sound w.0 (args_values args) (op_name op.text w.0 w.3).0 (args_count w.2 w.1 args w.6 ∙ sym w.4) (args_sound w.2 w.1 args w.6))

  args_sound : (r n : ℕ) (args : Args) → IsArgs r n args → list_all is_sound (args_values args) ≡ true
  args_sound r n (One e) h = and_from _ _ (expr_sound r e h.1) refl
  args_sound r n (More e comma args) h = and_from _ _ (expr_sound r e h.1.2) (args_sound r h.1.0 args h.1.3)

-- ---- statements and declarations

guard_sound : (g : Guard) → IsGuard g → is_sound_guard (guard_value g) ≡ true
guard_sound NoGuard h = refl
guard_sound (If word e) h = expr_sound most_open e h.1

stmt_sound : (s : Stmt) → IsStmt s → is_sound_stmt (stmt_value s) ≡ true
stmt_sound (Let word name sign e end) h = expr_sound most_open e h.3
stmt_sound (Assign name sign e end) h = expr_sound most_open e h.2
stmt_sound (Store name opens ix closes sign e g end) h = and_from _ _ (expr_sound 31 ix h.0.2) (and_from _ _ (expr_sound most_open e h.1.1) (guard_sound g h.1.2))
stmt_sound (Out word port sign e g end) h = and_from _ _ (expr_sound most_open e h.1.0) (guard_sound g h.1.1)

stmts_sound : (ss : List Stmt) → AllByRecursion IsStmt ss → list_all is_sound_stmt (map stmt_value ss) ≡ true
stmts_sound [] h = refl
stmts_sound (s ∷ ss) h = and_from _ _ (stmt_sound s h.0) (stmts_sound ss h.1)

decl_sound : (d : Decl) → IsDecl d → is_sound_decl (decl_value d) ≡ true
decl_sound (Array word name at_word at len_word len end) h = refl
decl_sound (Carry word name sign start end) h = number_word start.text h.1.1

decls_sound : (ds : List Decl) → AllByRecursion IsDecl ds → list_all is_sound_decl (map decl_value ds) ≡ true
decls_sound [] h = refl
decls_sound (d ∷ ds) h = and_from _ _ (decl_sound d h.0) (decls_sound ds h.1)

-- ---- texts

text_loop : (t : Text) → IsText t → fault_of (text_uses t) ≡ None → IsLoop (text_body t)
text_loop t h none = record {
  decls = decls_sound t.decls h.decls;
  stmts = stmts_sound t.stmts h.stmts;
  ruled = ap (λ us. is_none (fault_of us)) (sym (uses_of t h)) ∙ fault_places (text_uses t) ∙ ap is_none none;
}

pub spelled_loop : (bytes : List ℕ) (P : plain.Body) → Spells bytes P → IsLoop P
spelled_loop bytes P s = subst IsLoop (sym s.body) (text_loop s.text s.tree.is s.ruled)
