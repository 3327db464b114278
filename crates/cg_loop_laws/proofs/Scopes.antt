-- Names are known where they are used.
use Rattle.std.proofs.Common.{◌≡◌, ℕ, Bool, true, false, List, [], ◌∷◌, ◌++◌, cond, Option, Some, None, refl, ap, sym, ◌∙◌, ⊎_elim}
use Rattle.std.specs.Prelude.{◌&&◌, IsTrue, bytes_eq}
use Rattle.std.specs.List.{list_all, list_any, flat_map}
use Rattle.std.proofs.lemmas.Bool.{and_parts, or_from, or_parts, eqb-true, not-false, cases_Bool, cond-true, cond-false, false≢true}
use Rattle.cg_word.specs.Word.{arity}
use Rattle.cg_loop_syntax.specs.declared.body.Decl.{Decl}
use Rattle.cg_loop_syntax.specs.declared.body.Decl.TheVariants.{Array, Carry}
use Rattle.cg_loop_syntax.specs.declared.uses.Role.TheVariants as roles
use Rattle.cg_loop_syntax.specs.Loop.{Expr, Num, Turn, In, Scalar, Item, Two, Three, Stmt, Bind, Assign, Put, Emit, carry}
use Rattle.cg_loop_syntax.specs.Uses.{Use, of_name, of_port, expr_uses, guard_uses, stmt_uses, decls_uses, declares, declared, is_scalar, is_unknown}
use Rattle.cg_loop_syntax.specs.Well.{is_word_op}
use Rattle.cg_loop_laws.specs.Meaning.{updated}
use Rattle.cg_loop_laws.specs.Laws.{is_sound, is_sound_guard, is_sound_stmt}
use Rattle.cg_loop_laws.proofs.Sound.{IsScoped, IsScopedGuard, IsScopedStmt, AreScoped, known_after, is_carry}
use Rattle.cg_loop_laws.proofs.Texts.{text_same, text_other, cases_text}
use Rattle.cg_loop_laws.proofs.Firsts.{Passes, passes_append}
use Rattle.cg_loop_laws.proofs.Quiet.{IsQuiet, none_of_both, quiet_expr, quiet_guard}

-- a declaration of the name
abbrev declaring : List ℕ → Use → Bool
declaring x u = declares u.role && bytes_eq u.name x

declared_none : (us : List Use) (x : List ℕ) → list_any (declaring x) us ≡ false → declared us x ≡ None
declared_none [] x h = refl
declared_none (u ∷ us) x h = let r = or_parts _ _ h in cond-false (declaring x u) (Some u.role) (declared us x) r.0 ∙ declared_none us x r.1

-- no declaration behind it: what is declared stays
declared_still : (b us : List Use) (x : List ℕ) → list_any (declaring x) us ≡ false → declared (b ++ us) x ≡ declared b x
declared_still [] us x h = declared_none us x h
declared_still (u ∷ b) us x h = ap (λ z. cond (declaring x u) (Some u.role) z) (declared_still b us x h)

quiet_declaring : (x : List ℕ) → IsQuiet (declaring x)
quiet_declaring x = record { inputs = λ q. refl; scalars = λ y. refl; items = λ a. refl }

-- the scalars that are declared are known
record Knows (b : List Use) (N : List ℕ → Bool) : Type 0 where
  pub known : (x : List ℕ) → is_scalar (declared b x) ≡ true → IsTrue (N x)

knows_more : (b us : List Use) (N : List ℕ → Bool) → ((x : List ℕ) → list_any (declaring x) us ≡ false) → Knows b N → Knows (b ++ us) N
knows_more b us N n k = record { known = λ x h. k.known x (ap is_scalar (sym (declared_still b us x (n x))) ∙ h) }

knows_expr : (b : List Use) (N : List ℕ → Bool) (e : Expr) → Knows b N → Knows (b ++ expr_uses e) N
knows_expr b N e k = knows_more b (expr_uses e) N (λ x. quiet_expr (declaring x) (quiet_declaring x) e) k

declared_bind : (b : List Use) (x : List ℕ) (e : Expr) (y : List ℕ) → (y ≡ x → ⊥) → declared (b ++ stmt_uses (Bind x e)) y ≡ declared b y
declared_bind b x e y n =
    let last = or_from (bytes_eq x y) false (text_other x y (λ p. n (sym p))) refl in
    declared_still b (stmt_uses (Bind x e)) y (none_of_both (declaring y) (expr_uses e) _ (quiet_expr (declaring y) (quiet_declaring y) e) last)

bound : (b : List Use) (N : List ℕ → Bool) (x : List ℕ) (e : Expr) → Knows b N → (y : List ℕ) → is_scalar (declared (b ++ stmt_uses (Bind x e)) y) ≡ true → IsTrue (updated N x true y)
bound b N x e k y h =
    ⊎_elim
    (λ p. cond-true (bytes_eq y x) true (N y) (text_same y x p))
    (λ n. cond-false (bytes_eq y x) true (N y) (text_other y x n) ∙ k.known y (ap is_scalar (sym (declared_bind b x e y n)) ∙ h))
    (cases_text y x)

scoped_expr : (b : List Use) (N : List ℕ → Bool) (e : Expr) → Knows b N → is_sound e ≡ true → Passes is_unknown b (expr_uses e) → IsScoped N e
scoped_expr b N (Num w) k s h = tt
scoped_expr b N Turn k s h = tt
scoped_expr b N (In q) k s h = tt
scoped_expr b N (Scalar x) k s h = k.known x (not-false _ h.0)
scoped_expr b N (Item a e) k s h = scoped_expr _ N e (knows_more b (of_name roles.Item a ∷ []) N (λ x. refl) k) s h.1
scoped_expr b N (Two op c d) k s h =
    let x = and_parts _ _ s in
    let y = and_parts _ _ x.1 in
    let r = passes_append is_unknown b (expr_uses c) (expr_uses d) h in
    (eqb-true (arity op) 2 (and_parts (is_word_op op) _ x.0).1, scoped_expr b N c k y.0 r.0, scoped_expr _ N d (knows_expr b N c k) y.1 r.1)
scoped_expr b N (Three op c d e) k s h =
    let x = and_parts _ _ s in
    let y = and_parts _ _ x.1 in
    let z = and_parts _ _ y.1 in
    let r = passes_append is_unknown b (expr_uses c) (expr_uses d ++ expr_uses e) h in
    let t = passes_append is_unknown (b ++ expr_uses c) (expr_uses d) (expr_uses e) r.1 in (
      eqb-true (arity op) 3 (and_parts (is_word_op op) _ x.0).1,
      scoped_expr b N c k y.0 r.0,
      scoped_expr _ N d (knows_expr b N c k) z.0 t.0,
      scoped_expr _ N e (knows_expr _ N d (knows_expr b N c k)) z.1 t.1,
    )

scoped_guard : (b : List Use) (N : List ℕ → Bool) (g : Option Expr) → Knows b N → is_sound_guard g ≡ true → Passes is_unknown b (guard_uses g) → IsScopedGuard N g
scoped_guard b N None k s h = tt
scoped_guard b N (Some e) k s h = scoped_expr b N e k s h

scoped_stmt : (b : List Use) (N : List ℕ → Bool) (st : Stmt) → Knows b N → is_sound_stmt st ≡ true → Passes is_unknown b (stmt_uses st) → IsScopedStmt N st
scoped_stmt b N (Bind x e) k s h = scoped_expr b N e k s (passes_append is_unknown b (expr_uses e) _ h).0
scoped_stmt b N (Assign x e) k s h = scoped_expr _ N e (knows_more b (of_name roles.Assign x ∷ []) N (λ y. refl) k) s h.1
scoped_stmt b N (Put a ix v g) k s h =
    let x = and_parts _ _ s in
    let y = and_parts _ _ x.1 in
    let first = knows_more b (of_name roles.Item a ∷ []) N (λ y. refl) k in
    let r = passes_append is_unknown _ (expr_uses ix) (expr_uses v ++ guard_uses g) h.1 in
    let t = passes_append is_unknown _ (expr_uses v) (guard_uses g) r.1 in
    let second = knows_expr _ N ix first in
    (scoped_expr _ N ix first x.0 r.0, scoped_expr _ N v second y.0 t.0, scoped_guard _ N g (knows_expr _ N v second) y.1 t.1)
scoped_stmt b N (Emit p v g) k s h =
    let x = and_parts _ _ s in
    let first = knows_more b (of_port (roles.Output p) ∷ []) N (λ y. refl) k in
    let r = passes_append is_unknown _ (expr_uses v) (guard_uses g) h.1 in
    (scoped_expr _ N v first x.0 r.0, scoped_guard _ N g (knows_expr _ N v first) x.1 r.1)

knows_after : (b : List Use) (N : List ℕ → Bool) (st : Stmt) → Knows b N → Knows (b ++ stmt_uses st) (known_after N st)
knows_after b N (Bind x e) k = record { known = bound b N x e k }
knows_after b N (Assign x e) k = knows_more b (stmt_uses (Assign x e)) N (λ y. quiet_expr (declaring y) (quiet_declaring y) e) k
knows_after b N (Put a ix v g) k =
    knows_more b (stmt_uses (Put a ix v g)) N
    (λ y.
    let q = quiet_declaring y in
    none_of_both (declaring y) (expr_uses ix) _ (quiet_expr _ q ix) (none_of_both (declaring y) (expr_uses v) _ (quiet_expr _ q v) (quiet_guard _ q g)))
    k
knows_after b N (Emit p v g) k =
    knows_more b (stmt_uses (Emit p v g)) N (λ y. let q = quiet_declaring y in none_of_both (declaring y) (expr_uses v) _ (quiet_expr _ q v) (quiet_guard _ q g)) k

scoped_stmts : (b : List Use) (N : List ℕ → Bool) (ss : List Stmt) → Knows b N → list_all is_sound_stmt ss ≡ true → Passes is_unknown b (flat_map stmt_uses ss) → AreScoped N ss
scoped_stmts b N [] k s h = tt
scoped_stmts b N (st ∷ ss) k s h =
    let x = and_parts _ _ s in
    let r = passes_append is_unknown b (stmt_uses st) (flat_map stmt_uses ss) h in
    (scoped_stmt b N st k x.0 r.0, scoped_stmts _ (known_after N st) ss (knows_after b N st k) x.1 r.1)

-- the carries are what the declarations make known
knows_decls : (ds : List Decl) (x : List ℕ) → is_scalar (declared (decls_uses ds) x) ≡ true → IsTrue (is_carry (carry ds x))
knows_decls [] x h = h
knows_decls (Array y at len ∷ ds) x h =
    ⊎_elim
    (λ t. absurd (false≢true (ap is_scalar (sym (cond-true (bytes_eq y x) (Some (roles.Array at len)) (declared (decls_uses ds) x) t)) ∙ h)))
    (λ f. knows_decls ds x (ap is_scalar (sym (cond-false (bytes_eq y x) (Some (roles.Array at len)) (declared (decls_uses ds) x) f)) ∙ h))
    (cases_Bool (bytes_eq y x))
knows_decls (Carry y w ∷ ds) x h =
    ⊎_elim
    (λ p. ap is_carry (cond-true (bytes_eq x y) (Some w) (carry ds x) (text_same x y p)))
    (λ n.
    ap is_carry (cond-false (bytes_eq x y) (Some w) (carry ds x) (text_other x y n))
    ∙ knows_decls ds x (ap is_scalar (sym (cond-false (bytes_eq y x) (Some roles.Carry) (declared (decls_uses ds) x) (text_other y x (λ p. n (sym p))))) ∙ h))
    (cases_text x y)

pub scoped : (ds : List Decl) (ss : List Stmt) → list_all is_sound_stmt ss ≡ true → Passes is_unknown (decls_uses ds) (flat_map stmt_uses ss) → AreScoped (λ x. is_carry (carry ds x)) ss
scoped ds ss s h = scoped_stmts (decls_uses ds) _ ss (record { known = knows_decls ds }) s h
