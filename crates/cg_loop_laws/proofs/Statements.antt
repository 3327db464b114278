-- The nodes of a statement do what it does.
use Rattle.std.proofs.Common.{◌≡◌, ℕ, ◌+◌, ◌%◌, ◌<◌, ◌≤◌, List, [], ◌∷◌, ◌++◌, length, Some, None, Bool, true, false, cond, eqb, ltb, refl, sym, ap, ap₂, ◌∙◌, subst, arith, ⊎_elim, append-nil}
use Rattle.std.specs.Prelude.{◌&&◌, slice_index, slice_set, bit_and, bytes_eq}
use Rattle.std.proofs.lemmas.Bool.{cases_lt, cases_eq, cases_Bool, cond-true, cond-false, cond_both, lt-ltb, le-ltb, eq-eqb, ne_eqb, ltb-true, ltb-false, false≢true}
use Rattle.std.proofs.lemmas.List.{length-set, get_or-set_same, get_or-set_other, set_past}
use Rattle.cg_word.specs.declared.op.Op.TheVariants.{StoreIf, Output, OutputIf}
use Rattle.cg_word.specs.Word.{words, apply_of, one_if}
use Rattle.cg_model.specs.Work.{Image, Work, value_by, stored, sent, missed}
use Rattle.cg_model.specs.declared.kernel.Operand.{Operand}
use Rattle.cg_model.specs.Kernel.{Kernel, IsWired, node, size}
use Rattle.cg_model.specs.Turns.{Progress, after}
use Rattle.cg_loop_syntax.specs.Loop.{Expr, Num, Turn, In, Scalar, Item, Two, Three, Stmt, Bind, Assign, Put, Emit, Extent}
use Rattle.cg_loop_laws.specs.Laws.{IsInside}
use Rattle.cg_loop_laws.specs.Meaning.{State, eval, exec, exec_all, updated, sent_to}
use Rattle.cg_loop_laws.specs.Translate.{Env, here, cost, result, code, own_cost, own_node, own_code, put_code, put_if_code, stmt_cost, stmt_env, stmt_code, body_cost, body_env, body_code}
use Rattle.cg_loop_laws.proofs.Sound.{IsExpr, IsStmt, AreStmts}
use Rattle.cg_loop_laws.proofs.Texts.{text_same, same_text, text_other, cases_text}
use Rattle.cg_loop_laws.proofs.Stands.{Stands, stands_append, length-code, length-stmt_code}
use Rattle.cg_loop_laws.proofs.Wired.{AreLow}
use Rattle.cg_loop_laws.proofs.Effects.{IsQuiet, quiet_trans, now, word, at_work, word_here, step, gives, plain_step, word_step, missed_inside, missed_none, idle_after}
use Rattle.cg_loop_laws.proofs.Expressions.{bare, Agrees, agrees_on, expression_gives, test_gives, address_gives, ne_gives, and_gives, address_is}

module _ (K : Kernel) (image : Image) (good : IsWired K) (A : List ℕ → Extent) (low : AreLow A) (fits : (a : List ℕ) → (A a).at + (A a).len ≤ length image.memory)
    (apart : (a b : List ℕ) (x : ℕ) → IsInside (A a) x → IsInside (A b) x → a ≡ b) (i : ℕ) where
  abbrev at_ : ℕ → Progress
  at_ = now K image good i

  abbrev word_ : Operand → ℕ
  word_ = word K image good i

  abbrev Agree : Env → State → Progress → Type 0
  Agree = Agrees K image good A low fits i

  -- a value with a node of its own
  own_gives : (V : Env) (s : State) (at : ℕ) (e : Expr) → IsExpr e → Stands K at (own_code A V at e) → Agree V s (at_ at) → (eval image i s e ≡ word_ (here (own_node at e))) × IsQuiet (at_ at) (at_ (at + own_cost e))
  unfolding value_by apply_of
  own_gives V s at (Scalar x) h (l, e, end) g =
      (g.scalars x ∙ sym (word_here K image good i at ∙ gives K image good i at _ l e), plain_step K image good i at _ l e refl refl)
  own_gives V s at (Num w) h st g = let r = expression_gives K image good A low fits i V s at (Num w) h st g in (r.value, r.quiet)
  own_gives V s at Turn h st g = let r = expression_gives K image good A low fits i V s at Turn h st g in (r.value, r.quiet)
  own_gives V s at (In p) h st g = let r = expression_gives K image good A low fits i V s at (In p) h st g in (r.value, r.quiet)
  own_gives V s at (Item a e) h st g = let r = expression_gives K image good A low fits i V s at (Item a e) h st g in (r.value, r.quiet)
  own_gives V s at (Two op a b) h st g = let r = expression_gives K image good A low fits i V s at (Two op a b) h st g in (r.value, r.quiet)
  own_gives V s at (Three op a b c) h st g = let r = expression_gives K image good A low fits i V s at (Three op a b c) h st g in (r.value, r.quiet)

  named : (V : Env) (s : State) (p : Progress) (x : List ℕ) (u w : ℕ) → Agree V s p → w ≡ word_ (here u) → Agree (updated V x (here u)) (record s { scalars = updated s.scalars x w }) p
  named V s p x u w g e =
      record {
        scalars = λ y.
            ⊎_elim
            (λ t. cond-true (bytes_eq y x) w (s.scalars y) t ∙ e ∙ ap word_ (sym (cond-true (bytes_eq y x) (here u) (V y) t)))
            (λ t. cond-false (bytes_eq y x) w (s.scalars y) t ∙ g.scalars y ∙ ap word_ (sym (cond-false (bytes_eq y x) (here u) (V y) t)))
            (cases_Bool (bytes_eq y x));
        lengths = g.lengths;
        size = g.size;
        arrays = g.arrays;
        elsewhere = g.elsewhere;
        outputs = g.outputs;
        outside = g.outside;
      }

  -- an array after a store
  abbrev with_item : State → List ℕ → ℕ → ℕ → State
  with_item s a x v = record s { arrays = updated s.arrays a (slice_set (s.arrays a) x v) }

  store_after : (V : Env) (s : State) (p : Progress) (w : Work) (a : List ℕ) (x v : ℕ) → x < (A a).len → (after image w p).memory ≡ slice_set p.memory ((A a).at + x) v → ((port : ℕ) → sent port w ≡ []) → missed (length p.memory) w ≡ 0 →
      Agree V s p → Agree V (with_item s a x v) (after image w p)
  store_after V s p w a x v l em es eo g =
      record {
        scalars = g.scalars;
        lengths = λ b.
            cond_both (bytes_eq b a) (slice_set (s.arrays a) x v) (s.arrays b) (λ xs. length xs ≡ (A b).len) (λ t. length-set (s.arrays a) x v ∙ g.lengths a ∙ ap (λ c. (A c).len) (sym (same_text b a t))) (λ t. g.lengths b);
        size = ap length em ∙ length-set p.memory _ v ∙ g.size;
        arrays = λ b e h. ap (λ m. slice_index m ((A b).at + e)) em ∙ items b e h;
        elsewhere = λ y h.
            ap (λ m. slice_index m y) em
            ∙ get_or-set_other p.memory ((A a).at + x) y v 0 (λ z. h a (omega arith, omega arith))
            ∙ g.elsewhere y h;
        outputs = λ port. ap (λ xs. p.streams port ++ xs) (es port) ∙ append-nil (p.streams port) ∙ g.outputs port;
        outside = let o = g.outside in omega arith;
      }
    where
      items : (b : List ℕ) (e : ℕ) → e < (A b).len → slice_index (slice_set p.memory ((A a).at + x) v) ((A b).at + e) ≡ slice_index (updated s.arrays a (slice_set (s.arrays a) x v) b) e
      items b e h =
          ⊎_elim
          (λ (z : b ≡ a).
          ⊎_elim
          (λ (y : e ≡ x).
          ap (slice_index (slice_set p.memory ((A a).at + x) v)) (ap₂ (λ c d. (A c).at + d) z y)
          ∙ get_or-set_same p.memory ((A a).at + x) v 0 (let f = fits a in let k = g.size in omega arith)
          ∙ sym (ap (slice_index (updated s.arrays a (slice_set (s.arrays a) x v) b)) y ∙ ap (λ xs. slice_index xs x) (cond-true (bytes_eq b a) _ (s.arrays b) (text_same b a z)) ∙ get_or-set_same (s.arrays a) x v 0 (let k = g.lengths a in omega arith)))
          (λ (y : e ≡ x → ⊥).
          get_or-set_other p.memory ((A a).at + x) ((A b).at + e) v 0 (λ q. y (let k = ap (λ c. (A c).at) z in omega arith))
          ∙ g.arrays b e h
          ∙ sym (ap (λ xs. slice_index xs e) (cond-true (bytes_eq b a) _ (s.arrays b) (text_same b a z)) ∙ get_or-set_other (s.arrays a) x e v 0 y ∙ ap (λ c. slice_index (s.arrays c) e) (sym z)))
          (cases_eq e x))
          (λ (z : b ≡ a → ⊥).
          get_or-set_other p.memory ((A a).at + x) ((A b).at + e) v 0 (λ q. z (apart b a ((A b).at + e) (omega arith, omega arith) (omega arith, omega arith)))
          ∙ g.arrays b e h
          ∙ ap (λ xs. slice_index xs e) (sym (cond-false (bytes_eq b a) _ (s.arrays b) (text_other b a z))))
          (cases_text b a)

  -- a store outside its array changes nothing
  put_past : (V : Env) (s : State) (p : Progress) (a : List ℕ) (x v : ℕ) → (A a).len ≤ x → Agree V s p → Agree V (with_item s a x v) p
  put_past V s p a x v l g =
      record {
        scalars = g.scalars;
        lengths = λ b. ap length (same b) ∙ g.lengths b;
        size = g.size;
        arrays = λ b e h. g.arrays b e h ∙ ap (λ xs. slice_index xs e) (sym (same b));
        elsewhere = g.elsewhere;
        outputs = g.outputs;
        outside = g.outside;
      }
    where
      same : (b : List ℕ) → updated s.arrays a (slice_set (s.arrays a) x v) b ≡ s.arrays b
      same b =
          ⊎_elim (λ t. cond-true (bytes_eq b a) _ (s.arrays b) t ∙ set_past (s.arrays a) x v (let k = g.lengths a in omega arith) ∙ ap s.arrays (sym (same_text b a t)))
          (λ t. cond-false (bytes_eq b a) _ (s.arrays b) t) (cases_Bool (bytes_eq b a))

  -- a storeif whose guard says that the index is inside and the statement's guard allows it
  put_gives : {name : List ℕ} (V : Env) (s : State) (q : ℕ) (a : List ℕ) (x v : ℕ) (ok : Bool) (og oa ov : Operand) → q < size K → node K q ≡ bare name StoreIf (og ∷ oa ∷ ov ∷ []) →
      (x < (A a).len → ok ≡ true → word_ og ≡ 1) → ((A a).len ≤ x → word_ og ≡ 0) → (ok ≡ false → word_ og ≡ 0) → word_ oa ≡ (x + (A a).at) % words → word_ ov ≡ v →
      Agree V s (at_ q) → Agree V (cond ok (with_item s a x v) s) (at_ (q + 1))
  unfolding stored sent
  put_gives {name = name} V s q a x v ok og oa ov l e allowed outside' refused ea ev g =
      ⊎_elim
      (λ t.
      subst (λ z. Agree V z (at_ (q + 1))) (sym (cond-true ok (with_item s a x v) s t))
      (⊎_elim
      (λ b.
      let g1 : word_ og ≡ 1 = allowed b t in
      let a1 : word_ oa ≡ (A a).at + x = ea ∙ address_is (A a) x (low a) b in
      subst (Agree V (with_item s a x v)) (sym (step K image good i q _ l e))
      (store_after V s (at_ q) w a x v b
      (cond-true (ltb 0 (word_ og)) _ (at_ q).memory (ap (ltb 0) g1) ∙ ap₂ (slice_set (at_ q).memory) a1 ev)
      (λ port. refl)
      (missed_inside _ w (let f = fits a in let h = g.size in omega arith)) g))
      (λ b. put_past V s (at_ (q + 1)) a x v b (idle (outside' b)))
      (cases_lt x (A a).len)))
      (λ t. subst (λ z. Agree V z (at_ (q + 1))) (sym (cond-false ok (with_item s a x v) s t)) (idle (refused t)))
      (cases_Bool ok)
    where
      w : Work
      w = at_work K image good i (bare name StoreIf (og ∷ oa ∷ ov ∷ []))

      idle : word_ og ≡ 0 → Agree V s (at_ (q + 1))
      idle z = agrees_on K image good A low fits i V s (at_ q) (at_ (q + 1)) (subst (IsQuiet (at_ q)) (sym (step K image good i q _ l e)) (idle_after image w (at_ q) (ap (ltb 0) z))) g

  -- the nodes of a store
  put_plain : (V : Env) (s : State) (p : ℕ) (a : List ℕ) (x v : ℕ) (ix ov : Operand) → x ≡ word_ ix → word_ ov ≡ v → Stands K p (put_code (A a) p ix ov) → Agree V s (at_ p) → Agree V (with_item s a x v) (at_ (p + 3))
  put_plain V s p a x v ix ov ex ev (l0, e0, (l1, e1, (l2, e2, end))) g =
      let q = quiet_trans (at_ p) (at_ (p + 1)) (at_ (p + 1 + 1)) (word_step K image good i p _ l0 e0 refl) (word_step K image good i (p + 1) _ l1 e1 refl) in
      let test = test_gives K image good i p (A a).len ix l0 e0 in
      let r = put_gives V s (p + 1 + 1) a x v true (here p) (here (p + 1)) ov l2 e2
      (λ b t. test ∙ cond-true (ltb (word_ ix) (A a).len) 1 0 (lt-ltb _ _ (omega arith)))
      (λ b. test ∙ cond-false (ltb (word_ ix) (A a).len) 1 0 (le-ltb _ _ (omega arith)))
      (λ t. absurd (false≢true (sym t)))
      (address_gives K image good i (p + 1) (A a).at ix l1 e1 ∙ ap (λ z. (z + (A a).at) % words) (sym ex))
      ev (agrees_on K image good A low fits i V s (at_ p) (at_ (p + 1 + 1)) q g) in
      subst (λ z. Agree V (with_item s a x v) (at_ z)) (let f : p + 1 + 1 + 1 ≡ p + 3 = omega arith in f) r

  and_nothing : (b : Bool) (t : ℕ) → t ≡ one_if b → bit_and t 0 ≡ 0
  and_nothing true t e = rw e refl
  and_nothing false t e = rw e refl

  put_guarded : (V : Env) (s : State) (p : ℕ) (a : List ℕ) (x v gv : ℕ) (ix ov og : Operand) → x ≡ word_ ix → word_ ov ≡ v → gv ≡ word_ og → Stands K p (put_if_code (A a) p ix ov og) → Agree V s (at_ p) →
      Agree V (cond (ltb 0 gv) (with_item s a x v) s) (at_ (p + 5))
  put_guarded V s p a x v gv ix ov og ex ev eg (l0, e0, (l1, e1, (l2, e2, (l3, e3, (l4, e4, end))))) g =
      let q1 = quiet_trans (at_ p) (at_ (p + 1)) (at_ (p + 1 + 1)) (word_step K image good i p _ l0 e0 refl) (word_step K image good i (p + 1) _ l1 e1 refl) in
      let q2 = quiet_trans (at_ p) (at_ (p + 1 + 1)) (at_ (p + 1 + 1 + 1)) q1 (word_step K image good i (p + 1 + 1) _ l2 e2 refl) in
      let q3 = quiet_trans (at_ p) (at_ (p + 1 + 1 + 1)) (at_ (p + 1 + 1 + 1 + 1)) q2 (word_step K image good i (p + 1 + 1 + 1) _ l3 e3 refl) in
      let test = test_gives K image good i p (A a).len ix l0 e0 in
      let ne = ap (λ z. word_ (here z)) (let f : p + 2 ≡ p + 1 + 1 = omega arith in f) ∙ ne_gives K image good i (p + 1 + 1) og l2 e2 in
      let both = ap (λ z. word_ (here z)) (let f : p + 3 ≡ p + 1 + 1 + 1 = omega arith in f) ∙ and_gives K image good i (p + 1 + 1 + 1) (here p) (here (p + 2)) l3 e3 in
      let r = put_gives V s (p + 1 + 1 + 1 + 1) a x v (ltb 0 gv) (here (p + 3)) (here (p + 1)) ov l4 e4
      (λ b t.
      both
      ∙ ap₂ bit_and (test ∙ cond-true (ltb (word_ ix) (A a).len) 1 0 (lt-ltb _ _ (omega arith)))
      (ne ∙ cond-false (eqb (word_ og) 0) 0 1 (ne_eqb _ _ (λ z. let h = ltb-true 0 gv t in omega arith))))
      (λ b. both ∙ ap (λ t. bit_and t (word_ (here (p + 2)))) (test ∙ cond-false (ltb (word_ ix) (A a).len) 1 0 (le-ltb _ _ (omega arith))))
      (λ t. both ∙ ap (bit_and (word_ (here p))) (ne ∙ cond-true (eqb (word_ og) 0) 0 1 (eq-eqb _ _ (let h = ltb-false 0 gv t in omega arith))) ∙ and_nothing (ltb (word_ ix) (A a).len) (word_ (here p)) test)
      (address_gives K image good i (p + 1) (A a).at ix l1 e1 ∙ ap (λ z. (z + (A a).at) % words) (sym ex))
      ev (agrees_on K image good A low fits i V s (at_ p) (at_ (p + 1 + 1 + 1 + 1)) q3 g) in
      subst (λ z. Agree V (cond (ltb 0 gv) (with_item s a x v) s) (at_ z)) (let f : p + 1 + 1 + 1 + 1 + 1 ≡ p + 5 = omega arith in f) r

  -- outputs
  abbrev with_output : State → ℕ → ℕ → State
  with_output s port v = record s { outs = sent_to s.outs port v }

  output_after : (V : Env) (s : State) (p : Progress) (w : Work) (port v : ℕ) → (after image w p).memory ≡ p.memory → ((y : ℕ) → sent y w ≡ cond (eqb port y) (v ∷ []) []) → missed (length p.memory) w ≡ 0 →
      Agree V s p → Agree V (with_output s port v) (after image w p)
  output_after V s p w port v em es eo g =
      record {
        scalars = g.scalars;
        lengths = g.lengths;
        size = ap length em ∙ g.size;
        arrays = λ a e l. ap (λ m. slice_index m ((A a).at + e)) em ∙ g.arrays a e l;
        elsewhere = λ x k. ap (λ m. slice_index m x) em ∙ g.elsewhere x k;
        outputs = λ y.
            ap (λ xs. p.streams y ++ xs) (es y)
            ∙ ⊎_elim
            (λ (z : y ≡ port).
            ap (λ xs. p.streams y ++ xs) (cond-true (eqb port y) (v ∷ []) [] (eq-eqb port y (sym z)))
            ∙ ap (λ xs. xs ++ v ∷ []) (g.outputs y)
            ∙ sym (cond-true (eqb y port) (s.outs y ++ v ∷ []) (s.outs y) (eq-eqb y port z)))
            (λ (z : y ≡ port → ⊥).
            ap (λ xs. p.streams y ++ xs) (cond-false (eqb port y) (v ∷ []) [] (ne_eqb port y (λ q. z (sym q))))
            ∙ append-nil (p.streams y) ∙ g.outputs y
            ∙ sym (cond-false (eqb y port) (s.outs y ++ v ∷ []) (s.outs y) (ne_eqb y port z)))
            (cases_eq y port);
        outside = let o = g.outside in omega arith;
      }

  output_gives : {name : List ℕ} (V : Env) (s : State) (q port v : ℕ) (ov : Operand) → q < size K → node K q ≡ record { name = name; op = Output; port = port; operands = ov ∷ [] } → word_ ov ≡ v → Agree V s (at_ q) → Agree V (with_output s port v) (at_ (q + 1))
  unfolding stored sent
  output_gives {name = name} V s q port v ov l e ev g =
      subst (Agree V (with_output s port v)) (sym (step K image good i q _ l e))
      (output_after V s (at_ q) (at_work K image good i (record { name = name; op = Output; port = port; operands = ov ∷ [] })) port v refl (λ y. ap (λ z. cond (eqb port y) (z ∷ []) []) ev) (missed_none _ _ refl) g)

  outputif_gives : {name : List ℕ} (V : Env) (s : State) (q port v gv : ℕ) (og ov : Operand) → q < size K → node K q ≡ record { name = name; op = OutputIf; port = port; operands = og ∷ ov ∷ [] } → word_ ov ≡ v → word_ og ≡ gv → Agree V s (at_ q) →
      Agree V (cond (ltb 0 gv) (with_output s port v) s) (at_ (q + 1))
  unfolding stored sent
  outputif_gives {name = name} V s q port v gv og ov l e ev eg g =
      subst (Agree V (cond (ltb 0 gv) (with_output s port v) s)) (sym (step K image good i q _ l e))
      (⊎_elim
      (λ t.
      subst (λ z. Agree V z (after image w (at_ q))) (sym (cond-true (ltb 0 gv) (with_output s port v) s t))
      (output_after V s (at_ q) w port v refl (λ y. ap (λ b. cond (b && eqb port y) (word_ ov ∷ []) []) (ap (ltb 0) eg ∙ t) ∙ ap (λ z. cond (eqb port y) (z ∷ []) []) ev) (missed_none _ w refl) g))
      (λ t.
      subst (λ z. Agree V z (after image w (at_ q))) (sym (cond-false (ltb 0 gv) (with_output s port v) s t))
      (agrees_on K image good A low fits i V s (at_ q) (after image w (at_ q)) (idle_after image w (at_ q) (ap (ltb 0) eg ∙ t)) g))
      (cases_Bool (ltb 0 gv)))
    where
      w : Work
      w = at_work K image good i (record { name = name; op = OutputIf; port = port; operands = og ∷ ov ∷ [] })

  -- from one place to another that is as far
  moved : (V : Env) (s : State) (x y : ℕ) → x ≡ y → Agree V s (at_ x) → Agree V s (at_ y)
  moved V s x y e g = subst (λ z. Agree V s (at_ z)) e g

  on : (V : Env) (s : State) (x y : ℕ) → IsQuiet (at_ x) (at_ y) → Agree V s (at_ x) → Agree V s (at_ y)
  on V s x y q g = agrees_on K image good A low fits i V s (at_ x) (at_ y) q g

  stmt_gives : (V : Env) (s : State) (at : ℕ) (st : Stmt) → IsStmt st → Stands K at (stmt_code A V at st) → Agree V s (at_ at) → Agree (stmt_env V at st) (exec image i s st) (at_ (at + stmt_cost st))
  stmt_gives V s at (Bind x e) h st g = let r = own_gives V s at e h st g in named V s (at_ (at + own_cost e)) x (own_node at e) (eval image i s e) (on V s at (at + own_cost e) r.1 g) r.0
  stmt_gives V s at (Assign x e) h st g = let r = own_gives V s at e h st g in named V s (at_ (at + own_cost e)) x (own_node at e) (eval image i s e) (on V s at (at + own_cost e) r.1 g) r.0
  stmt_gives V s at (Put a ix v None) h st g =
      let (front, rest) = stands_append K at (code A V at ix) _ (cost ix) (length-code A V at ix) st in
      let (middle, last) = stands_append K (at + cost ix) (code A V (at + cost ix) v) _ (cost v) (length-code A V (at + cost ix) v) rest in
      let gi = expression_gives K image good A low fits i V s at ix h.0 front g in
      let ai = on V s at (at + cost ix) gi.quiet g in
      let gv = expression_gives K image good A low fits i V s (at + cost ix) v h.1 middle ai in
      let av = on V s (at + cost ix) (at + cost ix + cost v) gv.quiet ai in
      moved V (with_item s a (eval image i s ix) (eval image i s v)) (at + cost ix + cost v + 3) (at + (cost ix + cost v + 3)) (omega arith) (put_plain V s (at + cost ix + cost v) a (eval image i s ix) (eval image i s v) _ _ gi.value (sym gv.value) last av)
  stmt_gives V s at (Put a ix v (Some u)) h st g =
      let (front, rest) = stands_append K at (code A V at ix) _ (cost ix) (length-code A V at ix) st in
      let (middle, rest') = stands_append K (at + cost ix) (code A V (at + cost ix) v) _ (cost v) (length-code A V (at + cost ix) v) rest in
      let (third, last) = stands_append K (at + cost ix + cost v) (code A V (at + cost ix + cost v) u) _ (cost u) (length-code A V (at + cost ix + cost v) u) rest' in
      let gi = expression_gives K image good A low fits i V s at ix h.0 front g in
      let ai = on V s at (at + cost ix) gi.quiet g in
      let gv = expression_gives K image good A low fits i V s (at + cost ix) v h.1 middle ai in
      let av = on V s (at + cost ix) (at + cost ix + cost v) gv.quiet ai in
      let gu = expression_gives K image good A low fits i V s (at + cost ix + cost v) u h.2 third av in
      let au = on V s (at + cost ix + cost v) (at + cost ix + cost v + cost u) gu.quiet av in
      moved V (cond (ltb 0 (eval image i s u)) (with_item s a (eval image i s ix) (eval image i s v)) s) (at + cost ix + cost v + cost u + 5) (at + (cost ix + cost v + cost u + 5)) (omega arith)
      (put_guarded V s (at + cost ix + cost v + cost u) a (eval image i s ix) (eval image i s v) (eval image i s u) _ _ _ gi.value (sym gv.value) gu.value last au)
  stmt_gives V s at (Emit p v None) h st g =
      let (front, last) = stands_append K at (code A V at v) _ (cost v) (length-code A V at v) st in
      let gv = expression_gives K image good A low fits i V s at v h.1 front g in
      moved V (with_output s p (eval image i s v)) (at + cost v + 1) (at + (cost v + 1)) (omega arith) (output_gives V s (at + cost v) p (eval image i s v) (result V at v) last.0 last.1 (sym gv.value) (on V s at (at + cost v) gv.quiet g))
  stmt_gives V s at (Emit p v (Some u)) h st g =
      let (front, rest) = stands_append K at (code A V at v) _ (cost v) (length-code A V at v) st in
      let (middle, last) = stands_append K (at + cost v) (code A V (at + cost v) u) _ (cost u) (length-code A V (at + cost v) u) rest in
      let gv = expression_gives K image good A low fits i V s at v h.1 front g in
      let av = on V s at (at + cost v) gv.quiet g in
      let gu = expression_gives K image good A low fits i V s (at + cost v) u h.2 middle av in
      moved V (cond (ltb 0 (eval image i s u)) (with_output s p (eval image i s v)) s) (at + cost v + cost u + 1) (at + (cost v + cost u + 1)) (omega arith)
      (outputif_gives V s (at + cost v + cost u) p (eval image i s v) (eval image i s u) (result V (at + cost v) u) (result V at v) last.0 last.1 (sym gv.value) (sym gu.value) (on V s (at + cost v) (at + cost v + cost u) gu.quiet av))

  pub body_gives : (V : Env) (s : State) (at : ℕ) (ss : List Stmt) → AreStmts ss → Stands K at (body_code A V at ss) → Agree V s (at_ at) → Agree (body_env V at ss) (exec_all image i s ss) (at_ (at + body_cost ss))
  body_gives V s at [] h st g = moved V s at (at + 0) (omega arith) g
  body_gives V s at (x ∷ ss) h st g =
      let (front, rest) = stands_append K at (stmt_code A V at x) _ (stmt_cost x) (length-stmt_code A V at x) st in
      moved (body_env V at (x ∷ ss)) (exec_all image i s (x ∷ ss)) (at + stmt_cost x + body_cost ss) (at + (stmt_cost x + body_cost ss)) (omega arith)
      (body_gives (stmt_env V at x) (exec image i s x) (at + stmt_cost x) ss h.1 rest (stmt_gives V s at x h.0 front g))
