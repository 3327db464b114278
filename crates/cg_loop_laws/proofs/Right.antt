-- Numbers, operations and ports are right, and the ports of outputs differ.
use Rattle.std.proofs.Common.{◌≡◌, ℕ, zero, suc, Bool, true, false, List, [], ◌∷◌, ◌++◌, Option, Some, None, refl, sym, ◌∙◌, subst}
use Rattle.std.specs.Prelude.{IsTrue, nat_lt, slice_get}
use Rattle.std.specs.List.{list_all, list_any, flat_map}
use Rattle.std.proofs.lemmas.Bool.{and_parts, or_parts, ltb-true, ltb-false, eqb-false}
use Rattle.std.proofs.lemmas.List.Folds.{list_any-append}
use Rattle.cg_word.specs.declared.op.Op.{Op}
use Rattle.cg_word.specs.declared.op.Op.TheVariants.{Const, Iter, Input, Load, Store, Output, LoadIf, StoreIf, OutputIf}
use Rattle.cg_word.specs.Word.{words}
use Rattle.cg_model.specs.Limits.{last_port}
use Rattle.cg_loop_syntax.specs.Loop.{Expr, Num, Turn, In, Scalar, Item, Two, Three, Stmt, Bind, Assign, Put, Emit}
use Rattle.cg_loop_syntax.specs.Uses.{Use, expr_uses, guard_uses, stmt_uses, emits, is_bad_port}
use Rattle.cg_loop_syntax.specs.Well.{is_word_op}
use Rattle.cg_loop_laws.specs.Laws.{is_sound, is_sound_guard, is_sound_stmt}
use Rattle.cg_loop_laws.proofs.Sound.{is_word, IsExpr, IsGuard, IsStmt, AreStmts, ports, IsDistinct}
use Rattle.cg_loop_laws.proofs.Firsts.{Passes, passes_append}

word_op : (op : Op) → is_word_op op ≡ true → IsTrue (is_word op)
word_op Const h = h
word_op Iter h = h
word_op Input h = h
word_op Load h = h
word_op Store h = h
word_op Output h = h
word_op LoadIf h = h
word_op StoreIf h = h
word_op OutputIf h = h
word_op _ h = refl

right_expr : (b : List Use) (e : Expr) → is_sound e ≡ true → Passes is_bad_port b (expr_uses e) → IsExpr e
right_expr b (Num w) s h = ltb-true w words s
right_expr b Turn s h = tt
right_expr b (In q) s h = ltb-false last_port q h.0
right_expr b (Scalar x) s h = tt
right_expr b (Item a e) s h = right_expr _ e s h.1
right_expr b (Two op c d) s h =
    let x = and_parts _ _ s in
    let y = and_parts _ _ x.1 in
    let r = passes_append is_bad_port b (expr_uses c) (expr_uses d) h in
    (word_op op (and_parts (is_word_op op) _ x.0).0, right_expr _ c y.0 r.0, right_expr _ d y.1 r.1)
right_expr b (Three op c d e) s h =
    let x = and_parts _ _ s in
    let y = and_parts _ _ x.1 in
    let z = and_parts _ _ y.1 in
    let r = passes_append is_bad_port b (expr_uses c) (expr_uses d ++ expr_uses e) h in
    let t = passes_append is_bad_port (b ++ expr_uses c) (expr_uses d) (expr_uses e) r.1 in
    (word_op op (and_parts (is_word_op op) _ x.0).0, right_expr _ c y.0 r.0, right_expr _ d z.0 t.0, right_expr _ e z.1 t.1)

right_guard : (b : List Use) (g : Option Expr) → is_sound_guard g ≡ true → Passes is_bad_port b (guard_uses g) → IsGuard g
right_guard b None s h = tt
right_guard b (Some e) s h = right_expr b e s h

right_stmt : (b : List Use) (st : Stmt) → is_sound_stmt st ≡ true → Passes is_bad_port b (stmt_uses st) → IsStmt st
right_stmt b (Bind x e) s h = right_expr b e s (passes_append is_bad_port b (expr_uses e) _ h).0
right_stmt b (Assign x e) s h = right_expr _ e s h.1
right_stmt b (Put a ix v g) s h =
    let x = and_parts _ _ s in
    let y = and_parts _ _ x.1 in
    let r = passes_append is_bad_port _ (expr_uses ix) (expr_uses v ++ guard_uses g) h.1 in
    let t = passes_append is_bad_port _ (expr_uses v) (guard_uses g) r.1 in
    (right_expr _ ix x.0 r.0, right_expr _ v y.0 t.0, right_guard _ g y.1 t.1)
right_stmt b (Emit p v g) s h =
    let x = and_parts _ _ s in
    let r = passes_append is_bad_port _ (expr_uses v) (guard_uses g) h.1 in
    (ltb-false last_port p (or_parts (nat_lt last_port p) _ h.0).0, right_expr _ v x.0 r.0, right_guard _ g x.1 r.1)

pub right_stmts : (b : List Use) (ss : List Stmt) → list_all is_sound_stmt ss ≡ true → Passes is_bad_port b (flat_map stmt_uses ss) → AreStmts ss
right_stmts b [] s h = tt
right_stmts b (st ∷ ss) s h =
    let x = and_parts _ _ s in
    let r = passes_append is_bad_port b (stmt_uses st) (flat_map stmt_uses ss) h in
    (right_stmt b st x.0 r.0, right_stmts _ ss x.1 r.1)

-- ---- the ports of outputs

abbrev emitting : ℕ → Use → Bool
emitting q u = emits q u.role

-- no port of the list is used before
abbrev AreFresh : List Use → List ℕ → Type 0
AreFresh b ps = (q k : ℕ) → slice_get ps k ≡ Some q → list_any (emitting q) b ≡ false

fresh_before : (b us : List Use) (ps : List ℕ) → AreFresh (b ++ us) ps → AreFresh b ps
fresh_before b us ps f q k e = (or_parts _ _ (sym (list_any-append (emitting q) b us) ∙ f q k e)).0

fresh_first : (b : List Use) (p : ℕ) (ps : List ℕ) → list_any (emitting p) b ≡ false → AreFresh b ps → AreFresh b (p ∷ ps)
fresh_first b p ps h f q zero e = let w : p ≡ q = cc in subst (λ z. list_any (emitting z) b ≡ false) w h
fresh_first b p ps h f q (suc k) e = f q k e

fresh_new : (b : List Use) (p : ℕ) (v : Expr) (g : Option Expr) (ps : List ℕ) → AreFresh (b ++ stmt_uses (Emit p v g)) ps → (k : ℕ) → slice_get ps k ≡ Some p → ⊥
fresh_new b p v g ps f k e =
    eqb-false p p (or_parts _ _ (or_parts _ _ (sym (list_any-append (emitting p) b (stmt_uses (Emit p v g))) ∙ f p k e)).1).0 refl

pub distinct_ports : (b : List Use) (ss : List Stmt) → Passes is_bad_port b (flat_map stmt_uses ss) → IsDistinct (ports ss) × AreFresh b (ports ss)
distinct_ports b [] h = (tt, λ q k e. absurd (cc))
distinct_ports b (Bind x e ∷ ss) h =
    let i = distinct_ports _ ss (passes_append is_bad_port b (stmt_uses (Bind x e)) (flat_map stmt_uses ss) h).1 in (i.0, fresh_before b (stmt_uses (Bind x e)) (ports ss) i.1)
distinct_ports b (Assign x e ∷ ss) h =
    let i = distinct_ports _ ss (passes_append is_bad_port b (stmt_uses (Assign x e)) (flat_map stmt_uses ss) h).1 in
    (i.0, fresh_before b (stmt_uses (Assign x e)) (ports ss) i.1)
distinct_ports b (Put a ix v g ∷ ss) h =
    let i = distinct_ports _ ss (passes_append is_bad_port b (stmt_uses (Put a ix v g)) (flat_map stmt_uses ss) h).1 in
    (i.0, fresh_before b (stmt_uses (Put a ix v g)) (ports ss) i.1)
distinct_ports b (Emit p v g ∷ ss) h =
    let i = distinct_ports _ ss (passes_append is_bad_port b (stmt_uses (Emit p v g)) (flat_map stmt_uses ss) h).1 in (
      (fresh_new b p v g (ports ss) i.1, i.0),
      fresh_first b p (ports ss) (or_parts (nat_lt last_port p) _ h.0).1 (fresh_before b (stmt_uses (Emit p v g)) (ports ss) i.1),
    )
