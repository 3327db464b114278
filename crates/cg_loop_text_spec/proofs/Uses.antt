-- What a text does with names and ports is what its body does, and what is wrong with that does not depend on places.
use Rattle.std.proofs.Common.{◌≡◌, ℕ, suc, ◌≤◌, Bool, true, false, cond, ◌&&◌, ◌||◌, not, List, [], ◌∷◌, ◌++◌, map, Option, Some, None, refl, sym, ◌∙◌, ap, append_assoc, append-nil, arith}
use Rattle.std.specs.Prelude.{is_none, is_some, bytes_eq, eqb, nat_lt, ◌+◌}
use Rattle.std.specs.List.{flat_map, list_any, AllByRecursion}
use Rattle.std.specs.Option.{option_map, option_or}
use Rattle.std.proofs.lemmas.List.{map-append}
use Rattle.cg_word.specs.declared.op.Op.{Op}
use Rattle.cg_word.specs.declared.op.Op.TheVariants as ops
use Rattle.cg_word.specs.Word.{arity}
use Rattle.cg_model.specs.Limits.{last_port, most_memory}
use Rattle.cg_loop_syntax.specs.declared.uses.Role.{Role}
use Rattle.cg_loop_syntax.specs.declared.fault.LoopFault.{LoopFault}
use Rattle.cg_loop_syntax.specs.declared.fault.LoopFault.TheVariants.{UnknownName, RepeatedName, CarryAssign, BadArray, BadPort}
use Rattle.cg_loop_syntax.specs.declared.uses.Role.TheVariants as roles
use Rattle.cg_loop_syntax.specs.Well.{is_word_op, most_open}
use Rattle.cg_loop_syntax.specs.Loop as plain
use Rattle.cg_loop_syntax.specs.Uses as body
use Rattle.cg_loop_syntax.specs.Uses.{Use}
use Rattle.cg_loop_text_spec.specs.Words.{number_of, op_called}
use Rattle.cg_loop_text_spec.specs.Grammar.{Expr, Plain, Compared, Sum, Sums, Terms, NoTerms, Term, Prod, Prods, Factors, NoFactors, Factor, Atom, Number, Turn, Input, Scalar, Item, Bracket, Apply, One, More, Guard, NoGuard, If, Stmt, Let, Assign, Store, Out, Decl, Array, Carry, Text, IsExpr, IsSum, IsTerms, IsProd, IsFactors, IsAtom, IsGuard, IsStmt, IsText}
use Rattle.cg_loop_text_spec.specs.Meaning.{expr_value, sum_value, terms_value, prod_value, factors_value, atom_value, guard_value, stmt_value, decl_value, text_body, of_name, expr_uses, sum_uses, terms_uses, prod_uses, factors_uses, atom_uses, guard_uses, stmt_uses, decls_uses, text_uses, forget}
use Rattle.cg_loop_text_spec.proofs.Texts.{op_name}

abbrev Uses : Type 0
Uses = List Use

-- two lists of uses, each without its places
two : (a b c d : Uses) → map forget a ≡ c → map forget b ≡ d → map forget (a ++ b) ≡ c ++ d
two a b c d h g = map-append forget a b ∙ ap (λ (x : Uses). x ++ map forget b) h ∙ ap (λ (x : Uses). c ++ x) g

op_arity : (o : Op) → is_word_op o ≡ true → (2 ≤ arity o) × (arity o ≤ 3)
op_arity ops.Const h = cc
op_arity ops.Iter h = cc
op_arity ops.Input h = cc
op_arity ops.Add h = (omega arith, omega arith)
op_arity ops.Sub h = (omega arith, omega arith)
op_arity ops.Mul h = (omega arith, omega arith)
op_arity ops.And h = (omega arith, omega arith)
op_arity ops.Or h = (omega arith, omega arith)
op_arity ops.Xor h = (omega arith, omega arith)
op_arity ops.Shl h = (omega arith, omega arith)
op_arity ops.Shr h = (omega arith, omega arith)
op_arity ops.Sar h = (omega arith, omega arith)
op_arity ops.Eq h = (omega arith, omega arith)
op_arity ops.Ne h = (omega arith, omega arith)
op_arity ops.Lts h = (omega arith, omega arith)
op_arity ops.Ltu h = (omega arith, omega arith)
op_arity ops.Mins h = (omega arith, omega arith)
op_arity ops.Maxs h = (omega arith, omega arith)
op_arity ops.Select h = (omega arith, omega arith)
op_arity ops.Load h = cc
op_arity ops.Store h = cc
op_arity ops.Output h = cc
op_arity ops.LoadIf h = cc
op_arity ops.StoreIf h = cc
op_arity ops.OutputIf h = cc

op_further : (t : List ℕ) (o : Op) (n : ℕ) → op_called t ≡ Some o → arity o ≡ suc n → (1 ≤ n) × (n ≤ 2)
op_further t o n h a = let w = op_name t o h in let size = op_arity o w.0 in (omega arith, omega arith)

mutual
  expr_same : (r : ℕ) (e : Expr) → IsExpr r e → map forget (expr_uses e) ≡ body.expr_uses (expr_value e)
  expr_same r (Plain s) h = sum_same r s h
  expr_same r (Compared s sign x) h = two (sum_uses s) (sum_uses x) (body.expr_uses (sum_value s)) (body.expr_uses (sum_value x)) (sum_same r s h.0) (sum_same r x h.2)

  sum_same : (r : ℕ) (s : Sum) → IsSum r s → map forget (sum_uses s) ≡ body.expr_uses (sum_value s)
  sum_same r (Sums p ts) h = map-append forget (prod_uses p) (terms_uses ts) ∙ ap (λ (x : Uses). x ++ map forget (terms_uses ts)) (prod_same r p h.0) ∙ terms_same r (prod_value p) ts h.1

  terms_same : (r : ℕ) (e : plain.Expr) (ts : Terms) → IsTerms r ts → body.expr_uses e ++ map forget (terms_uses ts) ≡ body.expr_uses (terms_value e ts)
  terms_same r e NoTerms h = append-nil (body.expr_uses e)
  terms_same r e (Term sign p ts) h =
      ap (λ (x : Uses). body.expr_uses e ++ x) (two (prod_uses p) (terms_uses ts) (body.expr_uses (prod_value p)) (map forget (terms_uses ts)) (prod_same r p h.1) refl)
      ∙ sym (append_assoc (body.expr_uses e) (body.expr_uses (prod_value p)) (map forget (terms_uses ts)))
      ∙ terms_same r _ ts h.2

  prod_same : (r : ℕ) (p : Prod) → IsProd r p → map forget (prod_uses p) ≡ body.expr_uses (prod_value p)
  prod_same r (Prods a fs) h = map-append forget (atom_uses a) (factors_uses fs) ∙ ap (λ (x : Uses). x ++ map forget (factors_uses fs)) (atom_same r a h.0) ∙ factors_same r (atom_value a) fs h.1

  factors_same : (r : ℕ) (e : plain.Expr) (fs : Factors) → IsFactors r fs → body.expr_uses e ++ map forget (factors_uses fs) ≡ body.expr_uses (factors_value e fs)
  factors_same r e NoFactors h = append-nil (body.expr_uses e)
  factors_same r e (Factor star a fs) h =
      ap (λ (x : Uses). body.expr_uses e ++ x) (two (atom_uses a) (factors_uses fs) (body.expr_uses (atom_value a)) (map forget (factors_uses fs)) (atom_same r a h.1) refl)
      ∙ sym (append_assoc (body.expr_uses e) (body.expr_uses (atom_value a)) (map forget (factors_uses fs)))
      ∙ factors_same r (plain.Two ops.Mul e (atom_value a)) fs h.2

  atom_same : (r : ℕ) (a : Atom) → IsAtom r a → map forget (atom_uses a) ≡ body.expr_uses (atom_value a)
  atom_same r (Number t) h = refl
  atom_same r (Turn t) h = refl
  atom_same r (Input t p) h = refl
  atom_same r (Scalar t) h = refl
  atom_same r (Item t opens e closes) h = ap (λ (x : Uses). body.of_name roles.Item t.text ∷ x) (expr_same h.3.0 e h.3.2)
  atom_same r (Bracket opens e closes) h = expr_same h.2.0 e h.2.2
  atom_same r (Apply op opens (One e) closes) h = let w = h.2 in let none = w.6.0 in absurd (omega (arith, op_further op.text w.0 w.1 w.3 w.4))
  atom_same r (Apply op opens (More e c (One f)) closes) h =
      let args = h.2.6.1 in
      two (expr_uses e) (expr_uses f) (body.expr_uses (expr_value e)) (body.expr_uses (expr_value f)) (expr_same h.2.2 e args.2) (expr_same h.2.2 f args.3.1)
  atom_same r (Apply op opens (More e c (More f d (One g))) closes) h =
      let args = h.2.6.1 in
      let more = args.3.1 in
      two (expr_uses e) (expr_uses f ++ expr_uses g) (body.expr_uses (expr_value e)) (body.expr_uses (expr_value f) ++ body.expr_uses (expr_value g)) (expr_same h.2.2 e args.2)
      (two (expr_uses f) (expr_uses g) (body.expr_uses (expr_value f)) (body.expr_uses (expr_value g)) (expr_same h.2.2 f more.2) (expr_same h.2.2 g more.3.1))
  atom_same r (Apply op opens (More e c (More f d (More g i args))) closes) h =
      let w = h.2 in
      let one = w.6.1 in
      let two = one.3.1 in
      let three = two.3.1 in
      absurd (omega (arith, op_further op.text w.0 w.1 w.3 w.4, one.1, two.1, three.1))

guard_same : (g : Guard) → IsGuard g → map forget (guard_uses g) ≡ body.guard_uses (guard_value g)
guard_same NoGuard h = refl
guard_same (If word e) h = expr_same most_open e h.1

stmt_same : (s : Stmt) → IsStmt s → map forget (stmt_uses s) ≡ body.stmt_uses (stmt_value s)
stmt_same (Let word name sign e end) h = two (expr_uses e) (of_name roles.Bind name ∷ []) (body.expr_uses (expr_value e)) (body.of_name roles.Bind name.text ∷ []) (expr_same most_open e h.3) refl
stmt_same (Assign name sign e end) h = ap (λ (x : Uses). body.of_name roles.Assign name.text ∷ x) (expr_same most_open e h.2)
stmt_same (Store name opens ix closes sign e g end) h =
    ap (λ (x : Uses). body.of_name roles.Item name.text ∷ x)
    (two (expr_uses ix) (expr_uses e ++ guard_uses g) (body.expr_uses (expr_value ix)) (body.expr_uses (expr_value e) ++ body.guard_uses (guard_value g)) (expr_same 31 ix h.0.2)
    (two (expr_uses e) (guard_uses g) (body.expr_uses (expr_value e)) (body.guard_uses (guard_value g)) (expr_same most_open e h.1.1) (guard_same g h.1.2)))
stmt_same (Out word port sign e g end) h = ap (λ (x : Uses). body.of_port (roles.Output (number_of port.text)) ∷ x) (two (expr_uses e) (guard_uses g) (body.expr_uses (expr_value e)) (body.guard_uses (guard_value g)) (expr_same most_open e h.1.0) (guard_same g h.1.1))

stmts_same : (ss : List Stmt) → AllByRecursion IsStmt ss → map forget (flat_map stmt_uses ss) ≡ flat_map body.stmt_uses (map stmt_value ss)
stmts_same [] h = refl
stmts_same (s ∷ ss) h = two (stmt_uses s) (flat_map stmt_uses ss) (body.stmt_uses (stmt_value s)) (flat_map body.stmt_uses (map stmt_value ss)) (stmt_same s h.0) (stmts_same ss h.1)

decls_same : (ds : List Decl) → map forget (decls_uses ds) ≡ body.decls_uses (map decl_value ds)
decls_same [] = refl
decls_same (Array word name at_word at len_word len end ∷ ds) = ap (λ (x : Uses). body.decl_use (decl_value (Array word name at_word at len_word len end)) ∷ x) (decls_same ds)
decls_same (Carry word name sign start end ∷ ds) = ap (λ (x : Uses). body.decl_use (decl_value (Carry word name sign start end)) ∷ x) (decls_same ds)

-- the uses of a text are those of its body, but for their places
pub uses_of : (t : Text) → IsText t → map forget (text_uses t) ≡ body.body_uses (text_body t)
uses_of t h = two (decls_uses t.decls) (flat_map stmt_uses t.stmts) (body.decls_uses (map decl_value t.decls)) (flat_map body.stmt_uses (map stmt_value t.stmts)) (decls_same t.decls) (stmts_same t.stmts h.stmts)

-- ---- no test looks at a place

any_same : (p : Use → Bool) → ((u : Use) → p (forget u) ≡ p u) → (us : Uses) → list_any p (map forget us) ≡ list_any p us
any_same p h [] = refl
any_same p h (u ∷ us) = ap (λ b. b || list_any p (map forget us)) (h u) ∙ ap (λ b. p u || b) (any_same p h us)

declared_same : (us : Uses) (x : List ℕ) → body.declared (map forget us) x ≡ body.declared us x
declared_same [] x = refl
declared_same (u ∷ us) x = ap (λ o. cond (body.declares u.role && bytes_eq u.name x) (Some u.role) o) (declared_same us x)

record Blind (test : Uses → Use → Uses → Bool) : Type 0 where
  same : (before : Uses) (u : Use) (rest : Uses) → test (map forget before) (forget u) (map forget rest) ≡ test before u rest

unknown_blind : Blind body.is_unknown
unknown_blind = record { same = λ before u rest. ap (λ o. not (body.may u.role o)) (declared_same before u.name) }

repeated_blind : Blind body.is_repeated
repeated_blind = record { same = λ before u rest. ap (λ o. body.declares u.role && is_some o) (declared_same before u.name) }

misassigned_blind : Blind body.is_misassigned
misassigned_blind = record {
  same = λ before u rest.
      ap (λ b. (body.is_carry (Some u.role) && not b) || (body.is_assign u.role && list_any (body.assigns u.name) (map forget before))) (any_same (body.assigns u.name) (λ _. refl) rest)
      ∙ ap (λ b. (body.is_carry (Some u.role) && not (list_any (body.assigns u.name) rest)) || (body.is_assign u.role && b)) (any_same (body.assigns u.name) (λ _. refl) before);
}

misplaced_at : (before : Uses) (r : Role) → body.misplaced (map forget before) r ≡ body.misplaced before r
misplaced_at before (roles.Array at len) = ap (λ b. eqb len 0 || (nat_lt most_memory (at + len) || b)) (any_same (λ u. body.meets at len u.role) (λ _. refl) before)
misplaced_at before roles.Carry = refl
misplaced_at before roles.Bind = refl
misplaced_at before roles.Scalar = refl
misplaced_at before roles.Item = refl
misplaced_at before roles.Assign = refl
misplaced_at before (roles.Input p) = refl
misplaced_at before (roles.Output p) = refl

bad_port_at : (before : Uses) (r : Role) → body.bad_port (map forget before) r ≡ body.bad_port before r
bad_port_at before (roles.Array at len) = refl
bad_port_at before roles.Carry = refl
bad_port_at before roles.Bind = refl
bad_port_at before roles.Scalar = refl
bad_port_at before roles.Item = refl
bad_port_at before roles.Assign = refl
bad_port_at before (roles.Input p) = refl
bad_port_at before (roles.Output p) = ap (λ b. nat_lt last_port p || b) (any_same (λ u. body.emits p u.role) (λ _. refl) before)

misplaced_blind : Blind body.is_misplaced
misplaced_blind = record { same = λ before u rest. misplaced_at before u.role }

bad_port_blind : Blind body.is_bad_port
bad_port_blind = record { same = λ before u rest. bad_port_at before u.role }

first_same : (test : Uses → Use → Uses → Bool) → Blind test → (before us : Uses) → is_none (body.first_where test (map forget before) (map forget us)) ≡ is_none (body.first_where test before us)
first_same test h before [] = refl
first_same test h before (u ∷ rest) =
    ap (λ b. is_none (cond b (Some 0) (body.first_where test (map forget before ++ forget u ∷ []) (map forget rest)))) (h.same before u rest)
    ∙ ap (λ x. is_none (cond (test before u rest) (Some 0) (body.first_where test x (map forget rest)))) (sym (map-append forget before (u ∷ [])))
    ∙ elim (test before u rest) as (λ b. is_none (cond b (Some 0) (body.first_where test (map forget (before ++ u ∷ [])) (map forget rest))) ≡ is_none (cond b (Some u.place) (body.first_where test (before ++ u ∷ []) rest)))
    [ true ↦ refl | false ↦ first_same test h (before ++ u ∷ []) rest ]

-- one fault before others is none where they are
or_same : (f : ℕ → LoopFault) (a b : Option ℕ) (o p : Option LoopFault) → is_none a ≡ is_none b → is_none o ≡ is_none p → is_none (option_or (option_map f a) o) ≡ is_none (option_or (option_map f b) p)
or_same f None None o p h g = g
or_same f None (Some y) o p h g = cc
or_same f (Some x) None o p h g = cc
or_same f (Some x) (Some y) o p h g = refl

map_same : (f : ℕ → LoopFault) (a b : Option ℕ) → is_none a ≡ is_none b → is_none (option_map f a) ≡ is_none (option_map f b)
map_same f None None h = refl
map_same f None (Some y) h = cc
map_same f (Some x) None h = cc
map_same f (Some x) (Some y) h = refl

-- whether uses have a fault does not depend on their places
pub fault_places : (us : Uses) → is_none (body.fault_of (map forget us)) ≡ is_none (body.fault_of us)
fault_places us =
    or_same UnknownName _ _ _ _ (first_same body.is_unknown unknown_blind [] us)
    (or_same RepeatedName _ _ _ _ (first_same body.is_repeated repeated_blind [] us)
    (or_same CarryAssign _ _ _ _ (first_same body.is_misassigned misassigned_blind [] us)
    (or_same BadArray _ _ _ _ (first_same body.is_misplaced misplaced_blind [] us) (map_same BadPort _ _ (first_same body.is_bad_port bad_port_blind [] us)))))
