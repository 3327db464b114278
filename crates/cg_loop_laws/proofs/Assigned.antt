-- Carries begin with words, and some statement assigns each.
use Rattle.std.proofs.Common.{◌≡◌, ℕ, suc, ◌<◌, true, false, List, [], ◌∷◌, ◌++◌, Some, refl, ap, sym, ◌∙◌, ⊎_elim}
use Rattle.std.specs.Prelude.{bytes_eq, slice_get}
use Rattle.std.specs.List.{list_all, list_any, flat_map}
use Rattle.std.proofs.lemmas.Bool.{and_parts, or_parts, or_cases, not-false, both_ways, ltb-true, cond-true, cond-false}
use Rattle.std.proofs.lemmas.List.Folds.{list_any-append}
use Rattle.cg_word.specs.Word.{words}
use Rattle.cg_loop_syntax.specs.declared.body.Decl.{Decl}
use Rattle.cg_loop_syntax.specs.declared.body.Decl.TheVariants.{Array, Carry}
use Rattle.cg_loop_syntax.specs.Loop.{Expr, Stmt, Bind, Assign, Put, Emit, carry}
use Rattle.cg_loop_syntax.specs.Uses.{Use, expr_uses, stmt_uses, decls_uses, assigns, is_misassigned}
use Rattle.cg_loop_laws.specs.Laws.{is_sound_decl}
use Rattle.cg_loop_laws.proofs.Texts.{same_text, text_same, text_other, cases_text}
use Rattle.cg_loop_laws.proofs.Firsts.{Passes}
use Rattle.cg_loop_laws.proofs.Quiet.{IsQuiet, none_of_both, quiet_expr, quiet_guard}

pub starts : (ds : List Decl) (x : List ℕ) (w : ℕ) → list_all is_sound_decl ds ≡ true → carry ds x ≡ Some w → w < words
starts [] x w s e = absurd (cc)
starts (Array y at len ∷ ds) x w s e = starts ds x w s e
starts (Carry y v ∷ ds) x w s e =
    let r = and_parts _ _ s in
    ⊎_elim
    (λ p. let f = sym (cond-true (bytes_eq x y) (Some v) (carry ds x) (text_same x y p)) ∙ e in let g : v ≡ w = cc in rw (← g) (ltb-true v words r.0))
    (λ n. starts ds x w r.1 (sym (cond-false (bytes_eq x y) (Some v) (carry ds x) (text_other x y n)) ∙ e))
    (cases_text x y)

decls_assign_none : (x : List ℕ) (ds : List Decl) → list_any (assigns x) (decls_uses ds) ≡ false
decls_assign_none x [] = refl
decls_assign_none x (Array y at len ∷ ds) = decls_assign_none x ds
decls_assign_none x (Carry y w ∷ ds) = decls_assign_none x ds

assigned_behind : (b : List Use) (ds : List Decl) (us : List Use) (x : List ℕ) (w : ℕ) → carry ds x ≡ Some w → Passes is_misassigned b (decls_uses ds ++ us) → list_any (assigns x) us ≡ true
assigned_behind b [] us x w e h = absurd (cc)
assigned_behind b (Array y at len ∷ ds) us x w e h = assigned_behind _ ds us x w e h.1
assigned_behind b (Carry y v ∷ ds) us x w e h =
    ⊎_elim
    (λ p.
    let some = ap (λ z. list_any (assigns z) (decls_uses ds ++ us)) p ∙ not-false _ (or_parts _ _ h.0).0 in
    ⊎_elim (λ t. absurd (both_ways _ (decls_assign_none x ds) t)) (λ t. t) (or_cases _ _ (sym (list_any-append (assigns x) (decls_uses ds) us) ∙ some)))
    (λ n. assigned_behind _ ds us x w (sym (cond-false (bytes_eq x y) (Some v) (carry ds x) (text_other x y n)) ∙ e) h.1)
    (cases_text x y)

quiet_assigns : (x : List ℕ) → IsQuiet (assigns x)
quiet_assigns x = record { inputs = λ q. refl; scalars = λ y. refl; items = λ a. refl }

stmt_assigns : (x : List ℕ) (s : Stmt) → list_any (assigns x) (stmt_uses s) ≡ true → (e : Expr) × (s ≡ Assign x e)
stmt_assigns x (Bind y e) h = absurd (both_ways _ (none_of_both (assigns x) (expr_uses e) _ (quiet_expr _ (quiet_assigns x) e) refl) h)
stmt_assigns x (Assign y e) h =
    ⊎_elim (λ t. (e, ap (λ z. Assign z e) (same_text y x t))) (λ t. absurd (both_ways _ (quiet_expr (assigns x) (quiet_assigns x) e) t)) (or_cases (bytes_eq y x) _ h)
stmt_assigns x (Put a ix v g) h =
    let q = quiet_assigns x in
    absurd (both_ways _ (none_of_both (assigns x) (expr_uses ix) _ (quiet_expr _ q ix) (none_of_both (assigns x) (expr_uses v) _ (quiet_expr _ q v) (quiet_guard _ q g))) h)
stmt_assigns x (Emit p v g) h =
    let q = quiet_assigns x in absurd (both_ways _ (none_of_both (assigns x) (expr_uses v) _ (quiet_expr _ q v) (quiet_guard _ q g)) h)

assigning : (x : List ℕ) (ss : List Stmt) → list_any (assigns x) (flat_map stmt_uses ss) ≡ true → (k : ℕ) × (e : Expr) × (slice_get ss k ≡ Some (Assign x e))
assigning x [] h = absurd (cc)
assigning x (s ∷ ss) h =
    ⊎_elim
    (λ t. let r = stmt_assigns x s t in (0, r.0, ap Some r.1))
    (λ t. let r = assigning x ss t in (suc r.0, r.1, r.2))
    (or_cases _ _ (sym (list_any-append (assigns x) (stmt_uses s) (flat_map stmt_uses ss)) ∙ h))

pub assigned : (ds : List Decl) (ss : List Stmt) (x : List ℕ) (w : ℕ) → carry ds x ≡ Some w → Passes is_misassigned [] (decls_uses ds ++ flat_map stmt_uses ss) →
    (k : ℕ) × (e : Expr) × (slice_get ss k ≡ Some (Assign x e))
assigned ds ss x w e h = assigning x ss (assigned_behind [] ds (flat_map stmt_uses ss) x w e h)
