-- The table goes on with declarations and statements just as the grammar spells them.
use Rattle.std.proofs.Common.{◌≡◌, Bool, true, false, cond, ◌&&◌, List, [], ◌∷◌, ◌++◌, codes, Some, None, ⊎_elim, refl, sym, ◌∙◌, ap, subst, append_assoc}
use Rattle.std.specs.List.{flat_map, AllByRecursion}
use Rattle.cg_tokens.specs.Table.{Spelled, none, next}
use Rattle.cg_tokens.specs.Tokens.{Placed}
use Rattle.cg_loop_syntax.specs.Well.{is_loop_name, most_open}
use Rattle.cg_loop_text_spec.specs.Grammar.{Expr, Guard, Stmt, Let, Assign, Store, Out, Decl, Array, Carry, expr_tokens, guard_tokens, stmt_tokens, decl_tokens, Is, IsName, IsNumber, IsExpr, IsGuard, IsStmt, IsDecl}
use Rattle.cg_loop_text_spec.specs.Rules.{Square, Semicolon, Guarded, Symbol, Exactly, Digits, Operand, Target, Lines, same, array_rule, carry_rule, let_rule, out_rule, store_rule, stmt_rule, line_rule, target_rule, Change, Sets, Stores, change_tokens, IsChange, Closes, Spells}
use Rattle.cg_loop_text_spec.proofs.Texts.{chosen, some_is, and_both, same_is}
use Rattle.cg_loop_text_spec.proofs.Parts.{Tokens, nothing, alone, only, part_then, part_onto, exact_onto, name_onto, digits_onto, expr_of, of_expr, decl_onto, stmt_onto}
use Rattle.cg_loop_text_spec.proofs.Complete.{Goes, at_token, by_text}
use Rattle.cg_loop_text_spec.proofs.Lines.{name_at, let_at, out_at, end_at}

as_stack : {a b : List Symbol} {ts : Tokens} → Some a ≡ Some b → Spelled Spells b ts → Spelled Spells a ts
as_stack {a} {b} {ts} h p = subst (λ (x : List Symbol). Spelled Spells x ts) (sym (some_is h)) p

-- a symbol of one token in front
one : {s : Placed} {ts u : Tokens} (rest : Tokens) → ts ≡ u ++ rest → u ≡ s ∷ [] → ts ≡ s ∷ rest
one rest e f = e ∙ ap (λ (x : Tokens). x ++ rest) f

-- ---- what follows the name that a statement begins with

sets_sound : (t : Placed) (ts : Tokens) → Is t (codes "=") → Spells (Operand Semicolon false most_open) ts → Spells Target (t ∷ ts)
sets_sound t ts h p =
    let x = expr_of Semicolon most_open ts p in
    let end = x.3 in
    (Sets t x.0 end.0, (h, x.2, end.1), ap (λ (y : Tokens). t ∷ y) (x.4 ∙ ap (λ (y : Tokens). expr_tokens x.0 ++ y) end.2))

stores_from : (t closes s : Placed) (ts u v w : Tokens) (ix x : Expr) (g : Guard) (end : Placed) → Is t (codes "[") → IsExpr 31 ix → Is closes (codes "]") → Is s (codes "=") → IsExpr most_open x → IsGuard g → Is end (codes ";")
    → ts ≡ u ++ v → u ≡ expr_tokens ix ++ (closes ∷ []) → v ≡ s ∷ w → w ≡ expr_tokens x ++ (guard_tokens g ++ (end ∷ [])) → Spells Target (t ∷ ts)
stores_from t closes s ts u v w ix x g end h hi hc hs hx hg he e eu ev ew =
    let all : ts ≡ expr_tokens ix ++ (closes ∷ s ∷ (expr_tokens x ++ (guard_tokens g ++ (end ∷ [])))) =
    e ∙ ap (λ (y : Tokens). y ++ v) eu ∙ append_assoc (expr_tokens ix) (closes ∷ []) v ∙ ap (λ (y : Tokens). expr_tokens ix ++ (closes ∷ y)) (ev ∙ ap (λ (y : Tokens). s ∷ y) ew) in
    (Stores t ix closes s x g end, ((h, hi, hc), (hs, hx, hg, he)), ap (λ (y : Tokens). t ∷ y) all)

stores_sound : (t : Placed) (ts : Tokens) → Is t (codes "[") → Spelled Spells store_rule ts → Spells Target (t ∷ ts)
stores_sound t ts h (next _ u v e q (next _ _ w e2 (s, hs, f2) p)) = stored (expr_of Square 31 u q) (expr_of Guarded most_open w (alone (Operand Guarded false most_open) w p))
  where
    stored : ((x : Expr) × (end : Tokens) × IsExpr 31 x × Closes Square 31 end × (u ≡ expr_tokens x ++ end)) → ((x : Expr) × (end : Tokens) × IsExpr most_open x × Closes Guarded most_open end × (w ≡ expr_tokens x ++ end)) → Spells Target (t ∷ ts)
    stored (ix, last, hi, (closes, hc, f), ei) (x, last', hx, (g, end, hg, he, k), ex) =
        stores_from t closes s ts u v w ix x g end h hi hc hs hx hg he e (ei ∙ ap (λ (y : Tokens). expr_tokens ix ++ y) f) (one w e2 f2) (ex ∙ ap (λ (y : Tokens). expr_tokens x ++ y) k)

pub target_sound : (t : Placed) (new : List Symbol) (ts : Tokens) → target_rule t.text ≡ Some new → Spelled Spells new ts → Spells Target (t ∷ ts)
target_sound t new ts h p = ⊎_elim
    (λ w. sets_sound t ts (same_is t.text (codes "=") w.0) (alone (Operand Semicolon false most_open) ts (as_stack w.1 p)))
    (λ w. ⊎_elim (λ v. stores_sound t ts (same_is t.text (codes "[") v.0) (as_stack v.1 p)) (λ v. let other = v.1 in cc) (chosen (same t.text (codes "[")) (Some store_rule) None (Some new) w.1))
    (chosen (same t.text (codes "=")) (Some (Operand Semicolon false most_open ∷ [])) (cond (same t.text (codes "[")) (Some store_rule) None) (Some new) h)

pub target_complete : (t : Placed) (ts : Tokens) → Spells Target (t ∷ ts) → Goes Target t ts
target_complete t ts (Sets sign x end, h, e) =
    let rest = expr_tokens x ++ (end ∷ []) in
    at_token Target t sign ts rest e (
      Operand Semicolon false most_open ∷ [],
      by_text Target sign (codes "=") (Some (Operand Semicolon false most_open ∷ [])) h.0 refl,
      only (Operand Semicolon false most_open) rest (of_expr Semicolon most_open x (end ∷ []) h.1 (end, h.2, refl)),
    )
target_complete t ts (Stores opens ix closes sign x g end, h, e) =
    let last = expr_tokens x ++ (guard_tokens g ++ (end ∷ [])) in
    let rest = expr_tokens ix ++ (closes ∷ sign ∷ last) in
    at_token Target t opens ts rest e (
      store_rule,
      by_text Target opens (codes "[") (Some store_rule) h.0.0 refl,
      subst (Spelled Spells store_rule) (append_assoc (expr_tokens ix) (closes ∷ []) (sign ∷ last))
          (part_onto (Operand Square false 31) (Exactly (codes "=") ∷ Operand Guarded false most_open ∷ []) (expr_tokens ix ++ (closes ∷ [])) (sign ∷ last) (of_expr Square 31 ix (closes ∷ []) h.0.1 (closes, h.0.2, refl))
          (exact_onto (codes "=") (Operand Guarded false most_open ∷ []) sign last h.1.0 (only (Operand Guarded false most_open) last (of_expr Guarded most_open x (guard_tokens g ++ (end ∷ [])) h.1.1 (g, end, h.1.2, h.1.3, refl))))),
    )

-- ---- lines, taken apart

array_sound : (t : Placed) (ts : Tokens) → Is t (codes "array") → Spelled Spells (array_rule ++ (Lines true ∷ [])) ts → Spells (Lines true) (t ∷ ts)
array_sound t ts h (next _ _ r1 e1 (n, hn, f1) (next _ _ r2 e2 (a, ha, f2) (next _ _ r3 e3 (at, hat, f3) (next _ _ r4 e4 (l, hl, f4) (next _ _ r5 e5 (len, hlen, f5) (next _ _ r6 e6 (end, he, f6) p)))))) =
    let all : ts ≡ n ∷ a ∷ at ∷ l ∷ len ∷ end ∷ r6 = one r1 e1 f1 ∙ ap (λ (y : Tokens). n ∷ y) (one r2 e2 f2 ∙ ap (λ (y : Tokens). a ∷ y) (one r3 e3 f3 ∙ ap (λ (y : Tokens). at ∷ y) (one r4 e4 f4 ∙ ap (λ (y : Tokens). l ∷ y) (one r5 e5 f5 ∙ ap (λ (y : Tokens). len ∷ y) (one r6 e6 f6))))) in
    subst (λ (y : Tokens). Spells (Lines true) (t ∷ y)) (sym all) (decl_onto (Array t n a at l len end) r6 ((h, hn, ha, hat), (hl, hlen, he)) (alone (Lines true) r6 p))

carry_sound : (t : Placed) (ts : Tokens) → Is t (codes "carry") → Spelled Spells (carry_rule ++ (Lines true ∷ [])) ts → Spells (Lines true) (t ∷ ts)
carry_sound t ts h (next _ _ r1 e1 (n, hn, f1) (next _ _ r2 e2 (s, hs, f2) (next _ _ r3 e3 (w, hw, f3) (next _ _ r4 e4 (end, he, f4) p)))) =
    let all : ts ≡ n ∷ s ∷ w ∷ end ∷ r4 = one r1 e1 f1 ∙ ap (λ (y : Tokens). n ∷ y) (one r2 e2 f2 ∙ ap (λ (y : Tokens). s ∷ y) (one r3 e3 f3 ∙ ap (λ (y : Tokens). w ∷ y) (one r4 e4 f4))) in
    subst (λ (y : Tokens). Spells (Lines true) (t ∷ y)) (sym all) (decl_onto (Carry t n s w end) r4 ((h, hn), (hs, hw, he)) (alone (Lines true) r4 p))

let_from : (b : Bool) (t n s : Placed) (ts v r : Tokens) (x : Expr) (end : Placed) → Is t (codes "let") → IsName n → Is s (codes "=") → IsExpr most_open x → Is end (codes ";") → v ≡ expr_tokens x ++ (end ∷ []) → ts ≡ n ∷ s ∷ (v ++ r) → Spells (Lines false) r → Spells (Lines b) (t ∷ ts)
let_from b t n s ts v r x end h hn hs hx he ev e p =
    let all : ts ≡ n ∷ s ∷ ((expr_tokens x ++ (end ∷ [])) ++ r) = e ∙ ap (λ (y : Tokens). n ∷ s ∷ (y ++ r)) ev in
    subst (λ (y : Tokens). Spells (Lines b) (t ∷ y)) (sym all) (stmt_onto b (Let t n s x end) r (h, hn, hs, hx, he) p)

let_sound : (b : Bool) (t : Placed) (ts : Tokens) → Is t (codes "let") → Spelled Spells (let_rule ++ (Lines false ∷ [])) ts → Spells (Lines b) (t ∷ ts)
let_sound b t ts h (next _ _ r1 e1 (n, hn, f1) (next _ _ r2 e2 (s, hs, f2) (next _ v r3 e3 q p))) =
    let_value (expr_of Semicolon most_open v q)
  where
    let_value : ((x : Expr) × (end : Tokens) × IsExpr most_open x × Closes Semicolon most_open end × (v ≡ expr_tokens x ++ end)) → Spells (Lines b) (t ∷ ts)
    let_value (x, last, hx, (end, he, f), ev) =
        let_from b t n s ts v r3 x end h hn hs hx he (ev ∙ ap (λ (y : Tokens). expr_tokens x ++ y) f) (one r1 e1 f1 ∙ ap (λ (y : Tokens). n ∷ y) (one r2 e2 f2 ∙ ap (λ (y : Tokens). s ∷ y) e3)) (alone (Lines false) r3 p)

out_from : (b : Bool) (t n s : Placed) (ts v r : Tokens) (x : Expr) (g : Guard) (end : Placed) → Is t (codes "out") → IsNumber n → Is s (codes "=") → IsExpr most_open x → IsGuard g → Is end (codes ";") → v ≡ expr_tokens x ++ (guard_tokens g ++ (end ∷ [])) → ts ≡ n ∷ s ∷ (v ++ r) → Spells (Lines false) r → Spells (Lines b) (t ∷ ts)
out_from b t n s ts v r x g end h hn hs hx hg he ev e p =
    let all : ts ≡ n ∷ s ∷ ((expr_tokens x ++ (guard_tokens g ++ (end ∷ []))) ++ r) = e ∙ ap (λ (y : Tokens). n ∷ s ∷ (y ++ r)) ev in
    subst (λ (y : Tokens). Spells (Lines b) (t ∷ y)) (sym all) (stmt_onto b (Out t n s x g end) r ((h, hn, hs), (hx, hg, he)) p)

out_sound : (b : Bool) (t : Placed) (ts : Tokens) → Is t (codes "out") → Spelled Spells (out_rule ++ (Lines false ∷ [])) ts → Spells (Lines b) (t ∷ ts)
out_sound b t ts h (next _ _ r1 e1 (n, hn, f1) (next _ _ r2 e2 (s, hs, f2) (next _ v r3 e3 q p))) =
    out_value (expr_of Guarded most_open v q)
  where
    out_value : ((x : Expr) × (end : Tokens) × IsExpr most_open x × Closes Guarded most_open end × (v ≡ expr_tokens x ++ end)) → Spells (Lines b) (t ∷ ts)
    out_value (x, last, hx, (g, end, hg, he, f), ev) =
        out_from b t n s ts v r3 x g end h hn hs hx hg he (ev ∙ ap (λ (y : Tokens). expr_tokens x ++ y) f) (one r1 e1 f1 ∙ ap (λ (y : Tokens). n ∷ y) (one r2 e2 f2 ∙ ap (λ (y : Tokens). s ∷ y) e3)) (alone (Lines false) r3 p)

change_sound : (b : Bool) (t : Placed) (u v : Tokens) (c : Change) → IsName t → IsChange c → u ≡ change_tokens c → Spells (Lines false) v → Spells (Lines b) (t ∷ (u ++ v))
change_sound b t u v (Sets sign x end) n h e p = subst (λ (y : Tokens). Spells (Lines b) (t ∷ (y ++ v))) (sym e) (stmt_onto b (Assign t sign x end) v (n, h.0, h.1, h.2) p)
change_sound b t u v (Stores opens ix closes sign x g end) n h e p =
    subst (λ (y : Tokens). Spells (Lines b) (t ∷ (y ++ v))) (sym e) (stmt_onto b (Store t opens ix closes sign x g end) v ((n, h.0.0, h.0.1, h.0.2), h.1) p)

stmt_sound : (b : Bool) (t : Placed) (new : List Symbol) (ts : Tokens) → stmt_rule t.text ≡ Some new → Spelled Spells new ts → Spells (Lines b) (t ∷ ts)
stmt_sound b t new ts h p = ⊎_elim
    (λ w. let_sound b t ts (same_is t.text (codes "let") w.0) (as_stack w.1 p))
    (λ w. ⊎_elim
    (λ v. out_sound b t ts (same_is t.text (codes "out") v.0) (as_stack v.1 p))
    (λ v. ⊎_elim
    (λ u.
    let q = part_then Target (Lines false ∷ []) ts (as_stack u.1 p) in
    let c = q.3 in
    subst (λ (y : Tokens). Spells (Lines b) (t ∷ y)) (sym q.2) (change_sound b t q.0 q.1 c.0 u.0 c.1 c.2 (alone (Lines false) q.1 q.4)))
    (λ u. let other = u.1 in cc)
    (chosen (is_loop_name t.text) (Some (Target ∷ Lines false ∷ [])) None (Some new) v.1))
    (chosen (same t.text (codes "out")) (Some (out_rule ++ (Lines false ∷ []))) (cond (is_loop_name t.text) (Some (Target ∷ Lines false ∷ [])) None) (Some new) w.1))
    (chosen (same t.text (codes "let")) (Some (let_rule ++ (Lines false ∷ []))) (cond (same t.text (codes "out")) (Some (out_rule ++ (Lines false ∷ []))) (cond (is_loop_name t.text) (Some (Target ∷ Lines false ∷ [])) None)) (Some new) h)

as_true : (b : Bool) (t : Placed) (ts : Tokens) (w : Bool) → b && w ≡ true → Spells (Lines true) (t ∷ ts) → Spells (Lines b) (t ∷ ts)
as_true b t ts w h p = subst (λ x. Spells (Lines x) (t ∷ ts)) (sym (and_both b w h).0) p

pub lines_sound : (b : Bool) (t : Placed) (new : List Symbol) (ts : Tokens) → line_rule b t.text ≡ Some new → Spelled Spells new ts → Spells (Lines b) (t ∷ ts)
lines_sound b t new ts h p = ⊎_elim
    (λ w. ([], [], t, tt, (λ _. refl), tt, same_is t.text [] w.0, ap (λ (y : Tokens). t ∷ y) (nothing (as_stack w.1 p))))
    (λ w. ⊎_elim
    (λ v. as_true b t ts (same t.text (codes "array")) v.0 (array_sound t ts (same_is t.text (codes "array") (and_both b (same t.text (codes "array")) v.0).1) (as_stack v.1 p)))
    (λ v. ⊎_elim
    (λ u. as_true b t ts (same t.text (codes "carry")) u.0 (carry_sound t ts (same_is t.text (codes "carry") (and_both b (same t.text (codes "carry")) u.0).1) (as_stack u.1 p)))
    (λ u. stmt_sound b t new ts u.1 p)
    (chosen (b && same t.text (codes "carry")) (Some (carry_rule ++ (Lines true ∷ []))) (stmt_rule t.text) (Some new) v.1))
    (chosen (b && same t.text (codes "array")) (Some (array_rule ++ (Lines true ∷ []))) (cond (b && same t.text (codes "carry")) (Some (carry_rule ++ (Lines true ∷ []))) (stmt_rule t.text)) (Some new) w.1))
    (chosen (same t.text []) (Some []) (cond (b && same t.text (codes "array")) (Some (array_rule ++ (Lines true ∷ []))) (cond (b && same t.text (codes "carry")) (Some (carry_rule ++ (Lines true ∷ []))) (stmt_rule t.text))) (Some new) h)

-- ---- lines, put together

decl_complete : (d : Decl) (t : Placed) (ts rest : Tokens) → IsDecl d → Spells (Lines true) rest → t ∷ ts ≡ decl_tokens d ++ rest → Goes (Lines true) t ts
decl_complete (Array word name at_word at len_word len end) t ts rest h p e =
    at_token (Lines true) t word ts (name ∷ at_word ∷ at ∷ len_word ∷ len ∷ end ∷ rest) e (
      array_rule ++ (Lines true ∷ []),
      by_text (Lines true) word (codes "array") (Some (array_rule ++ (Lines true ∷ []))) h.0.0 refl,
      name_onto (Exactly (codes "at") ∷ Digits ∷ Exactly (codes "len") ∷ Digits ∷ Exactly (codes ";") ∷ Lines true ∷ []) name (at_word ∷ at ∷ len_word ∷ len ∷ end ∷ rest) h.0.1
          (exact_onto (codes "at") (Digits ∷ Exactly (codes "len") ∷ Digits ∷ Exactly (codes ";") ∷ Lines true ∷ []) at_word (at ∷ len_word ∷ len ∷ end ∷ rest) h.0.2
          (digits_onto (Exactly (codes "len") ∷ Digits ∷ Exactly (codes ";") ∷ Lines true ∷ []) at (len_word ∷ len ∷ end ∷ rest) h.0.3
          (exact_onto (codes "len") (Digits ∷ Exactly (codes ";") ∷ Lines true ∷ []) len_word (len ∷ end ∷ rest) h.1.0
          (digits_onto (Exactly (codes ";") ∷ Lines true ∷ []) len (end ∷ rest) h.1.1 (exact_onto (codes ";") (Lines true ∷ []) end rest h.1.2 (only (Lines true) rest p)))))),
    )
decl_complete (Carry word name sign start end) t ts rest h p e =
    at_token (Lines true) t word ts (name ∷ sign ∷ start ∷ end ∷ rest) e (
      carry_rule ++ (Lines true ∷ []),
      by_text (Lines true) word (codes "carry") (Some (carry_rule ++ (Lines true ∷ []))) h.0.0 refl,
      name_onto (Exactly (codes "=") ∷ Digits ∷ Exactly (codes ";") ∷ Lines true ∷ []) name (sign ∷ start ∷ end ∷ rest) h.0.1
          (exact_onto (codes "=") (Digits ∷ Exactly (codes ";") ∷ Lines true ∷ []) sign (start ∷ end ∷ rest) h.1.0
          (digits_onto (Exactly (codes ";") ∷ Lines true ∷ []) start (end ∷ rest) h.1.1 (exact_onto (codes ";") (Lines true ∷ []) end rest h.1.2 (only (Lines true) rest p)))),
    )

stmt_complete : (b : Bool) (s : Stmt) (t : Placed) (ts rest : Tokens) → IsStmt s → Spells (Lines false) rest → t ∷ ts ≡ stmt_tokens s ++ rest → Goes (Lines b) t ts
stmt_complete b (Let word name sign x end) t ts rest h p e =
    let value = expr_tokens x ++ (end ∷ []) in
    at_token (Lines b) t word ts (name ∷ sign ∷ (value ++ rest)) e (
      let_rule ++ (Lines false ∷ []),
      by_text (Lines b) word (codes "let") (Some (let_rule ++ (Lines false ∷ []))) h.0 (let_at b),
      name_onto (Exactly (codes "=") ∷ Operand Semicolon false most_open ∷ Lines false ∷ []) name (sign ∷ (value ++ rest)) h.1
          (exact_onto (codes "=") (Operand Semicolon false most_open ∷ Lines false ∷ []) sign (value ++ rest) h.2
          (part_onto (Operand Semicolon false most_open) (Lines false ∷ []) value rest (of_expr Semicolon most_open x (end ∷ []) h.3 (end, h.4, refl)) (only (Lines false) rest p))),
    )
stmt_complete b (Out word port sign x g end) t ts rest h p e =
    let value = expr_tokens x ++ (guard_tokens g ++ (end ∷ [])) in
    at_token (Lines b) t word ts (port ∷ sign ∷ (value ++ rest)) e (
      out_rule ++ (Lines false ∷ []),
      by_text (Lines b) word (codes "out") (Some (out_rule ++ (Lines false ∷ []))) h.0.0 (out_at b),
      digits_onto (Exactly (codes "=") ∷ Operand Guarded false most_open ∷ Lines false ∷ []) port (sign ∷ (value ++ rest)) h.0.1
          (exact_onto (codes "=") (Operand Guarded false most_open ∷ Lines false ∷ []) sign (value ++ rest) h.0.2
          (part_onto (Operand Guarded false most_open) (Lines false ∷ []) value rest (of_expr Guarded most_open x (guard_tokens g ++ (end ∷ [])) h.1.0 (g, end, h.1.1, h.1.2, refl)) (only (Lines false) rest p))),
    )
stmt_complete b (Assign name sign x end) t ts rest h p e =
    let change = Sets sign x end in
    at_token (Lines b) t name ts (change_tokens change ++ rest) e
    (Target ∷ Lines false ∷ [], name_at b name.text h.0, part_onto Target (Lines false ∷ []) (change_tokens change) rest (change, (h.1, h.2, h.3), refl) (only (Lines false) rest p))
stmt_complete b (Store name opens ix closes sign x g end) t ts rest h p e =
    let change = Stores opens ix closes sign x g end in
    at_token (Lines b) t name ts (change_tokens change ++ rest) e
    (Target ∷ Lines false ∷ [], name_at b name.text h.0.0, part_onto Target (Lines false ∷ []) (change_tokens change) rest (change, ((h.0.1, h.0.2, h.0.3), h.1), refl) (only (Lines false) rest p))

lines_from : (b : Bool) (t : Placed) (ts : Tokens) (ds : List Decl) (ss : List Stmt) (end : Placed) → AllByRecursion IsDecl ds → (b ≡ false → ds ≡ []) → AllByRecursion IsStmt ss → Is end []
    → t ∷ ts ≡ flat_map decl_tokens ds ++ (flat_map stmt_tokens ss ++ (end ∷ [])) → Goes (Lines b) t ts
lines_from true t ts (d ∷ ds) ss end hd only_here hs he e =
    let rest = flat_map decl_tokens ds ++ (flat_map stmt_tokens ss ++ (end ∷ [])) in
    decl_complete d t ts rest hd.0 (ds, ss, end, hd.1, (λ w. cc), hs, he, refl) (e ∙ append_assoc (decl_tokens d) (flat_map decl_tokens ds) (flat_map stmt_tokens ss ++ (end ∷ [])))
lines_from false t ts (d ∷ ds) ss end hd only_here hs he e = let none = only_here refl in cc
lines_from b t ts [] (s ∷ ss) end hd only_here hs he e =
    stmt_complete b s t ts (flat_map stmt_tokens ss ++ (end ∷ [])) hs.0 ([], ss, end, tt, (λ w. refl), hs.1, he, refl) (e ∙ append_assoc (stmt_tokens s) (flat_map stmt_tokens ss) (end ∷ []))
lines_from b t ts [] [] end hd only_here hs he e = at_token (Lines b) t end ts [] e ([], by_text (Lines b) end [] (Some []) he (end_at b), none)

pub lines_complete : (b : Bool) (t : Placed) (ts : Tokens) → Spells (Lines b) (t ∷ ts) → Goes (Lines b) t ts
lines_complete b t ts (ds, ss, end, hd, only_here, hs, he, e) = lines_from b t ts ds ss end hd only_here hs he e
