-- The tokens of a loop body have one tree.
use Rattle.std.proofs.Common.{◌≡◌, ℕ, ◌≤◌, true, false, cond, List, [], ◌∷◌, ◌++◌, codes, refl, sym, ◌∙◌, ap, append_assoc, arith}
use Rattle.std.specs.List.{flat_map, AllByRecursion}
use Rattle.cg_tokens.specs.Tokens.{Placed}
use Rattle.cg_loop_syntax.specs.Well.{is_loop_name, most_open}
use Rattle.cg_loop_text_spec.specs.Grammar.{Expr, Guard, NoGuard, If, Stmt, Let, Assign, Store, Out, Decl, Array, Carry, Text, expr_tokens, guard_tokens, stmt_tokens, decl_tokens, text_tokens, Is, IsExpr, IsGuard, IsStmt, IsDecl, IsText}
use Rattle.cg_loop_text_spec.specs.Rules.{same}
use Rattle.cg_loop_text_spec.proofs.Texts.{same_self}
use Rattle.cg_loop_text_spec.proofs.Parts.{Tokens}
use Rattle.cg_loop_text_spec.proofs.Unique.{level, level_of, of_level, heads, one_expr}

-- two texts that a test tells apart are no text of one token
told_apart : (s r : List ℕ) (a b : Placed) → same s r ≡ false → Is a s → Is b r → a ≡ b → ⊥
told_apart s r a b d h g e =
    let texts : s ≡ r = sym h ∙ ap (λ (x : Placed). x.text) e ∙ g in
    let here : same s r ≡ true = ap (same s) (sym texts) ∙ same_self s in
    cc

-- ---- a value with its guard

one_guard : (g g' : Guard) (end end' : Placed) (u v : Tokens) → IsGuard g → IsGuard g' → Is end (codes ";") → Is end' (codes ";") → guard_tokens g ++ (end ∷ u) ≡ guard_tokens g' ++ (end' ∷ v) → (g ≡ g') × (end ≡ end') × (u ≡ v)
one_guard NoGuard NoGuard end end' u v h k i j e = let b = heads e in (refl, b.0, b.1)
one_guard NoGuard (If word x) end end' u v h k i j e = let b = heads e in absurd (told_apart (codes ";") (codes "if") end word refl i k.0 b.0)
one_guard (If word x) NoGuard end end' u v h k i j e = let b = heads e in absurd (told_apart (codes "if") (codes ";") word end' refl h.0 j b.0)
one_guard (If word x) (If word' x') end end' u v h k i j e =
    let b = heads e in
    let w = one_expr most_open most_open x x' (end ∷ u) (end' ∷ v) h.1 k.1 (of_level 0 0 end (ap level_of i) (omega arith)) (of_level 0 0 end' (ap level_of j) (omega arith)) b.1 in
    let c = heads w.1 in
    let first = b.0 in
    let last = w.0 in
    (cc, c.0, c.1)

guard_level : (g : Guard) (end : Placed) (u : Tokens) → IsGuard g → Is end (codes ";") → level (guard_tokens g ++ (end ∷ u)) ≤ 0
guard_level NoGuard end u h i = of_level 0 0 end (ap level_of i) (omega arith)
guard_level (If word x) end u h i = of_level 0 0 word (ap level_of h.0) (omega arith)

regroup : (a b c u : Tokens) → (a ++ (b ++ c)) ++ u ≡ a ++ (b ++ (c ++ u))
regroup a b c u = simp append_assoc

one_value : (x x' : Expr) (g g' : Guard) (end end' : Placed) (u v : Tokens) → IsExpr most_open x → IsExpr most_open x' → IsGuard g → IsGuard g' → Is end (codes ";") → Is end' (codes ";")
    → (expr_tokens x ++ (guard_tokens g ++ (end ∷ []))) ++ u ≡ (expr_tokens x' ++ (guard_tokens g' ++ (end' ∷ []))) ++ v → (x ≡ x') × (g ≡ g') × (end ≡ end') × (u ≡ v)
one_value x x' g g' end end' u v hx kx h k i j e =
    let w = one_expr most_open most_open x x' (guard_tokens g ++ (end ∷ u)) (guard_tokens g' ++ (end' ∷ v)) hx kx (guard_level g end u h i) (guard_level g' end' v k j)
    (sym (regroup (expr_tokens x) (guard_tokens g) (end ∷ []) u) ∙ e ∙ regroup (expr_tokens x') (guard_tokens g') (end' ∷ []) v) in
    let z = one_guard g g' end end' u v h k i j w.1 in
    (w.0, z.0, z.1, z.2)

one_plain : (r : ℕ) (x x' : Expr) (s : List ℕ) (end end' : Placed) (u v : Tokens) → level_of s ≡ 0 → IsExpr r x → IsExpr r x' → Is end s → Is end' s → (expr_tokens x ++ (end ∷ [])) ++ u ≡ (expr_tokens x' ++ (end' ∷ [])) ++ v → (x ≡ x') × (end ≡ end') × (u ≡ v)
one_plain r x x' s end end' u v l hx kx i j e =
    let w = one_expr r r x x' (end ∷ u) (end' ∷ v) hx kx (of_level 0 0 end (ap level_of i ∙ l) (omega arith)) (of_level 0 0 end' (ap level_of j ∙ l) (omega arith))
    (sym (append_assoc (expr_tokens x) (end ∷ []) u) ∙ e ∙ append_assoc (expr_tokens x') (end' ∷ []) v) in
    let b = heads w.1 in
    (w.0, b.0, b.1)

-- ---- lines by their first token

abbrev class_of : List ℕ → ℕ
class_of s = cond (is_loop_name s) 3 (cond (same s (codes "let")) 1 (cond (same s (codes "out")) 2 (cond (same s (codes "array")) 4 (cond (same s (codes "carry")) 5 0))))

abbrev stmt_class : Stmt → ℕ
stmt_class (Let word name sign x end) = 1
stmt_class (Assign name sign x end) = 3
stmt_class (Store name opens ix closes sign x g end) = 3
stmt_class (Out word port sign x g end) = 2

abbrev decl_class : Decl → ℕ
decl_class (Array word name at_word at len_word len end) = 4
decl_class (Carry word name sign start end) = 5

abbrev head_class : Tokens → ℕ
head_class [] = 0
head_class (t ∷ rest) = class_of t.text

name_class : (t : List ℕ) → is_loop_name t ≡ true → class_of t ≡ 3
name_class t h = ap (λ b. cond b 3 (cond (same t (codes "let")) 1 (cond (same t (codes "out")) 2 (cond (same t (codes "array")) 4 (cond (same t (codes "carry")) 5 0))))) h

stmt_class_is : (a : Stmt) (u : Tokens) → IsStmt a → head_class (stmt_tokens a ++ u) ≡ stmt_class a
stmt_class_is (Let word name sign x end) u h = ap class_of h.0
stmt_class_is (Assign name sign x end) u h = name_class name.text h.0
stmt_class_is (Store name opens ix closes sign x g end) u h = name_class name.text h.0.0
stmt_class_is (Out word port sign x g end) u h = ap class_of h.0.0

decl_class_is : (a : Decl) (u : Tokens) → IsDecl a → head_class (decl_tokens a ++ u) ≡ decl_class a
decl_class_is (Array word name at_word at len_word len end) u h = ap class_of h.0.0
decl_class_is (Carry word name sign start end) u h = ap class_of h.0.0

stmt_low : (a : Stmt) → (1 ≤ stmt_class a) × (stmt_class a ≤ 3)
stmt_low (Let word name sign x end) = (omega arith, omega arith)
stmt_low (Assign name sign x end) = (omega arith, omega arith)
stmt_low (Store name opens ix closes sign x g end) = (omega arith, omega arith)
stmt_low (Out word port sign x g end) = (omega arith, omega arith)

decl_high : (a : Decl) → 4 ≤ decl_class a
decl_high (Array word name at_word at len_word len end) = omega arith
decl_high (Carry word name sign start end) = omega arith

-- ---- lines that spell the same

one_decl : (a b : Decl) (u v : Tokens) → IsDecl a → IsDecl b → decl_tokens a ++ u ≡ decl_tokens b ++ v → (a ≡ b) × (u ≡ v)
one_decl (Array word name at_word at len_word len end) (Array word' name' at_word' at' len_word' len' end') u v h g e =
    let p1 = heads e in
    let p2 = heads p1.1 in
    let p3 = heads p2.1 in
    let p4 = heads p3.1 in
    let p5 = heads p4.1 in
    let p6 = heads p5.1 in
    let p7 = heads p6.1 in
    let e1 = p1.0 in
    let e2 = p2.0 in
    let e3 = p3.0 in
    let e4 = p4.0 in
    let e5 = p5.0 in
    let e6 = p6.0 in
    let e7 = p7.0 in
    (cc, p7.1)
one_decl (Carry word name sign start end) (Carry word' name' sign' start' end') u v h g e =
    let p1 = heads e in
    let p2 = heads p1.1 in
    let p3 = heads p2.1 in
    let p4 = heads p3.1 in
    let p5 = heads p4.1 in
    let e1 = p1.0 in
    let e2 = p2.0 in
    let e3 = p3.0 in
    let e4 = p4.0 in
    let e5 = p5.0 in
    (cc, p5.1)
one_decl a b u v h g e = let w : decl_class a ≡ decl_class b = sym (decl_class_is a u h) ∙ ap head_class e ∙ decl_class_is b v g in absurd (omega (arith, w))

one_stmt : (a b : Stmt) (u v : Tokens) → IsStmt a → IsStmt b → stmt_tokens a ++ u ≡ stmt_tokens b ++ v → (a ≡ b) × (u ≡ v)
one_stmt (Let word name sign x end) (Let word' name' sign' x' end') u v h g e =
    let p1 = heads e in
    let p2 = heads p1.1 in
    let p3 = heads p2.1 in
    let w = one_plain most_open x x' (codes ";") end end' u v refl h.3 g.3 h.4 g.4 p3.1 in
    let e1 = p1.0 in
    let e2 = p2.0 in
    let e3 = p3.0 in
    let e4 = w.0 in
    let e5 = w.1 in
    (cc, w.2)
one_stmt (Assign name sign x end) (Assign name' sign' x' end') u v h g e =
    let p1 = heads e in
    let p2 = heads p1.1 in
    let w = one_plain most_open x x' (codes ";") end end' u v refl h.2 g.2 h.3 g.3 p2.1 in
    let e1 = p1.0 in
    let e2 = p2.0 in
    let e4 = w.0 in
    let e5 = w.1 in
    (cc, w.2)
one_stmt (Assign name sign x end) (Store name' opens ix closes sign' x' g' end') u v h g e =
    let p1 = heads e in
    let p2 = heads p1.1 in
    absurd (told_apart (codes "=") (codes "[") sign opens refl h.1 g.0.1 p2.0)
one_stmt (Store name opens ix closes sign x g end) (Assign name' sign' x' end') u v h k e =
    let p1 = heads e in
    let p2 = heads p1.1 in
    absurd (told_apart (codes "[") (codes "=") opens sign' refl h.0.1 k.1 p2.0)
one_stmt (Store name opens ix closes sign x g end) (Store name' opens' ix' closes' sign' x' g' end') u v h k e =
    let p1 = heads e in
    let p2 = heads p1.1 in
    let last = expr_tokens x ++ (guard_tokens g ++ (end ∷ [])) in
    let last' = expr_tokens x' ++ (guard_tokens g' ++ (end' ∷ [])) in
    let i = one_plain 31 ix ix' (codes "]") closes closes' (sign ∷ (last ++ u)) (sign' ∷ (last' ++ v)) refl h.0.2 k.0.2 h.0.3 k.0.3 (store_tokens ix closes sign last u ∙ p2.1 ∙ sym (store_tokens ix' closes' sign' last' v)) in
    let p3 = heads i.2 in
    let w = one_value x x' g g' end end' u v h.1.1 k.1.1 h.1.2 k.1.2 h.1.3 k.1.3 p3.1 in
    let e1 = p1.0 in
    let e2 = p2.0 in
    let e3 = i.0 in
    let e4 = i.1 in
    let e5 = p3.0 in
    let e6 = w.0 in
    let e7 = w.1 in
    let e8 = w.2 in
    (cc, w.3)
  where
    store_tokens : (ix : Expr) (closes sign : Placed) (last u : Tokens) → (expr_tokens ix ++ (closes ∷ [])) ++ (sign ∷ (last ++ u)) ≡ (expr_tokens ix ++ (closes ∷ sign ∷ last)) ++ u
    store_tokens ix closes sign last u = simp append_assoc
one_stmt (Out word port sign x g end) (Out word' port' sign' x' g' end') u v h k e =
    let p1 = heads e in
    let p2 = heads p1.1 in
    let p3 = heads p2.1 in
    let w = one_value x x' g g' end end' u v h.1.0 k.1.0 h.1.1 k.1.1 h.1.2 k.1.2 p3.1 in
    let e1 = p1.0 in
    let e2 = p2.0 in
    let e3 = p3.0 in
    let e4 = w.0 in
    let e5 = w.1 in
    let e6 = w.2 in
    (cc, w.3)
one_stmt a b u v h g e = let w : stmt_class a ≡ stmt_class b = sym (stmt_class_is a u h) ∙ ap head_class e ∙ stmt_class_is b v g in absurd (omega (arith, w))

one_stmts : (a b : List Stmt) → AllByRecursion IsStmt a → AllByRecursion IsStmt b → flat_map stmt_tokens a ≡ flat_map stmt_tokens b → a ≡ b
one_stmts [] [] h g e = refl
one_stmts [] (s ∷ b) h g e = let w : 0 ≡ stmt_class s = ap head_class e ∙ stmt_class_is s (flat_map stmt_tokens b) g.0 in absurd (omega (arith, stmt_low s, w))
one_stmts (s ∷ a) [] h g e = let w : 0 ≡ stmt_class s = ap head_class (sym e) ∙ stmt_class_is s (flat_map stmt_tokens a) h.0 in absurd (omega (arith, stmt_low s, w))
one_stmts (s ∷ a) (s' ∷ b) h g e =
    let w = one_stmt s s' (flat_map stmt_tokens a) (flat_map stmt_tokens b) h.0 g.0 e in
    let rest = one_stmts a b h.1 g.1 w.1 in
    let first = w.0 in
    cc

-- no declaration begins as a statement does
stmts_low : (ss : List Stmt) → AllByRecursion IsStmt ss → head_class (flat_map stmt_tokens ss) ≤ 3
stmts_low [] h = omega arith
stmts_low (s ∷ ss) h = omega (arith, stmt_low s, stmt_class_is s (flat_map stmt_tokens ss) h.0)

no_decl : (d : Decl) (u : Tokens) (ss : List Stmt) → IsDecl d → AllByRecursion IsStmt ss → decl_tokens d ++ u ≡ flat_map stmt_tokens ss → ⊥
no_decl d u ss h g e = let w = ap head_class e in omega (arith, decl_high d, decl_class_is d u h, stmts_low ss g, w)

one_lines : (a b : List Decl) (r s : List Stmt) → AllByRecursion IsDecl a → AllByRecursion IsDecl b → AllByRecursion IsStmt r → AllByRecursion IsStmt s → flat_map decl_tokens a ++ flat_map stmt_tokens r ≡ flat_map decl_tokens b ++ flat_map stmt_tokens s → (a ≡ b) × (r ≡ s)
one_lines [] [] r s h g i j e = (refl, one_stmts r s i j e)
one_lines [] (d ∷ b) r s h g i j e = absurd (no_decl d (flat_map decl_tokens b ++ flat_map stmt_tokens s) r g.0 i (sym (append_assoc (decl_tokens d) (flat_map decl_tokens b) (flat_map stmt_tokens s)) ∙ sym e))
one_lines (d ∷ a) [] r s h g i j e = absurd (no_decl d (flat_map decl_tokens a ++ flat_map stmt_tokens r) s h.0 j (sym (append_assoc (decl_tokens d) (flat_map decl_tokens a) (flat_map stmt_tokens r)) ∙ e))
one_lines (d ∷ a) (d' ∷ b) r s h g i j e =
    let w = one_decl d d' (flat_map decl_tokens a ++ flat_map stmt_tokens r) (flat_map decl_tokens b ++ flat_map stmt_tokens s) h.0 g.0
    (sym (append_assoc (decl_tokens d) (flat_map decl_tokens a) (flat_map stmt_tokens r)) ∙ e ∙ append_assoc (decl_tokens d') (flat_map decl_tokens b) (flat_map stmt_tokens s)) in
    let z = one_lines a b r s h.1 g.1 i j w.1 in
    let first = w.0 in
    let rest = z.0 in
    (cc, z.1)

abbrev text_of : Placed → Placed → List Decl → List Stmt → Text
text_of format end decls stmts = record { format = format; end = end; decls = decls; stmts = stmts }

pub one_text : (s t : Text) → IsText s → IsText t → text_tokens s ≡ text_tokens t → s ≡ t
one_text s t h g e =
    let p1 = heads e in
    let p2 = heads p1.1 in
    let w = one_lines s.decls t.decls s.stmts t.stmts h.decls g.decls h.stmts g.stmts p2.1 in
    ap (λ x. text_of x s.end s.decls s.stmts) p1.0 ∙ ap (λ x. text_of t.format x s.decls s.stmts) p2.0 ∙ ap (λ x. text_of t.format t.end x s.stmts) w.0 ∙ ap (text_of t.format t.end t.decls) w.1
