-- No two outputs of a loop's kernel go to one port.
use Rattle.std.proofs.Common.{◌≡◌, ℕ, zero, suc, ◌+◌, ◌<◌, List, [], ◌∷◌, ◌++◌, length, Some, None, true, cond, refl, sym, ap, ap₂, ◌∙◌, subst, arith, ⊎_elim}
use Rattle.std.specs.Prelude.{slice_get, slice_index_or}
use Rattle.std.proofs.lemmas.Bool.{cases_Bool, cond-true, cond-false}
use Rattle.cg_word.specs.declared.op.Op.{Op}
use Rattle.cg_word.specs.Word.{is_output}
use Rattle.cg_model.specs.declared.kernel.Operand.{Operand}
use Rattle.cg_model.specs.declared.kernel.Node.{Node}
use Rattle.cg_model.specs.Kernel.{no_node}
use Rattle.cg_loop_syntax.specs.Loop.{Expr, Num, Turn, In, Scalar, Item, Two, Three, Stmt, Bind, Assign, Put, Emit, Extent}
use Rattle.cg_loop_laws.specs.Translate.{Env, plain, cost, result, code, own_code, stmt_cost, stmt_env, stmt_code, body_code}
use Rattle.cg_loop_laws.proofs.Sound.{is_word, IsExpr, IsStmt, AreStmts, ports, IsDistinct}
use Rattle.cg_loop_laws.proofs.Effects.{word_quiet}

-- the ports of the outputs, in order
abbrev pub outputs : List Node → List ℕ
outputs [] = []
outputs (n ∷ ns) = cond (is_output n.op) (n.port ∷ outputs ns) (outputs ns)

outputs_append : (xs ys : List Node) → outputs (xs ++ ys) ≡ outputs xs ++ outputs ys
outputs_append [] ys = refl
outputs_append (x ∷ xs) ys =
    ⊎_elim
    (λ t. cond-true (is_output x.op) _ _ t ∙ ap (λ z. x.port ∷ z) (outputs_append xs ys) ∙ ap (λ z. z ++ outputs ys) (sym (cond-true (is_output x.op) _ _ t)))
    (λ t. cond-false (is_output x.op) _ _ t ∙ outputs_append xs ys ∙ ap (λ z. z ++ outputs ys) (sym (cond-false (is_output x.op) _ _ t)))
    (cases_Bool (is_output x.op))

output_at : (ns : List Node) (v : ℕ) → v < length ns → is_output (slice_index_or ns v no_node).op ≡ true → (k : ℕ) × (slice_get (outputs ns) k ≡ Some (slice_index_or ns v no_node).port)
output_at [] v l h = absurd (omega arith)
output_at (n ∷ ns) zero l h = (0, ap (λ z. slice_get z 0) (cond-true (is_output n.op) (n.port ∷ outputs ns) (outputs ns) h))
output_at (n ∷ ns) (suc v) l h =
    let r = output_at ns v (omega arith) h in
    ⊎_elim (λ t. (suc r.0, ap (λ z. slice_get z (suc r.0)) (cond-true (is_output n.op) (n.port ∷ outputs ns) (outputs ns) t) ∙ r.1))
    (λ t. (r.0, ap (λ z. slice_get z r.0) (cond-false (is_output n.op) (n.port ∷ outputs ns) (outputs ns) t) ∙ r.1)) (cases_Bool (is_output n.op))

distinct_rest : (n : Node) (ns : List Node) → IsDistinct (outputs (n ∷ ns)) → IsDistinct (outputs ns)
distinct_rest n ns h =
    ⊎_elim (λ t. (subst IsDistinct (cond-true (is_output n.op) (n.port ∷ outputs ns) (outputs ns) t) h).1) (λ t. subst IsDistinct (cond-false (is_output n.op) (n.port ∷ outputs ns) (outputs ns) t) h) (cases_Bool (is_output n.op))

distinct_first : (n : Node) (ns : List Node) (v : ℕ) → IsDistinct (outputs (n ∷ ns)) → is_output n.op ≡ true → v < length ns → is_output (slice_index_or ns v no_node).op ≡ true → n.port ≡ (slice_index_or ns v no_node).port → ⊥
distinct_first n ns v h t l k e =
    let d = subst IsDistinct (cond-true (is_output n.op) (n.port ∷ outputs ns) (outputs ns) t) h in
    let r = output_at ns v l k in
    d.0 r.0 (r.1 ∙ ap Some (sym e))

pub distinct_at : (ns : List Node) (v w : ℕ) → IsDistinct (outputs ns) → v < length ns → w < length ns → is_output (slice_index_or ns v no_node).op ≡ true → is_output (slice_index_or ns w no_node).op ≡ true →
    (slice_index_or ns v no_node).port ≡ (slice_index_or ns w no_node).port → v ≡ w
distinct_at [] v w h lv lw a b e = absurd (omega arith)
distinct_at (n ∷ ns) zero zero h lv lw a b e = refl
distinct_at (n ∷ ns) zero (suc w) h lv lw a b e = absurd (distinct_first n ns w h a (omega arith) b e)
distinct_at (n ∷ ns) (suc v) zero h lv lw a b e = absurd (distinct_first n ns v h b (omega arith) a (sym e))
distinct_at (n ∷ ns) (suc v) (suc w) h lv lw a b e = ap suc (distinct_at ns v w (distinct_rest n ns h) (omega arith) (omega arith) a b e)

-- outputs come from output statements alone
none_and : (xs ys : List Node) (zs : List ℕ) → outputs xs ≡ [] → outputs ys ≡ zs → outputs (xs ++ ys) ≡ zs
none_and xs ys zs e f = outputs_append xs ys ∙ ap₂ (λ a b. a ++ b) e f

word_outputs : (at : ℕ) (op : Op) (os : List Operand) → is_word op ≡ true → outputs (plain at op os ∷ []) ≡ []
word_outputs at op os h = cond-false (is_output op) (0 ∷ []) [] (word_quiet op h).1

module _ (A : List ℕ → Extent) (V : Env) where
  code_outputs : (at : ℕ) (e : Expr) → IsExpr e → outputs (code A V at e) ≡ []
  code_outputs at (Num w) h = refl
  code_outputs at Turn h = refl
  code_outputs at (In p) h = refl
  code_outputs at (Scalar x) h = refl
  code_outputs at (Item a e) h = none_and (code A V at e) _ [] (code_outputs at e h) refl
  code_outputs at (Two op a b) h = none_and (code A V at a) _ [] (code_outputs at a h.1) (none_and (code A V (at + cost a) b) _ [] (code_outputs (at + cost a) b h.2) (word_outputs (at + cost a + cost b) op (result V at a ∷ result V (at + cost a) b ∷ []) h.0))
  code_outputs at (Three op a b c) h =
      none_and (code A V at a) _ [] (code_outputs at a h.1)
      (none_and (code A V (at + cost a) b) _ [] (code_outputs (at + cost a) b h.2) (none_and (code A V (at + cost a + cost b) c) _ [] (code_outputs (at + cost a + cost b) c h.3) (word_outputs (at + cost a + cost b + cost c) op (result V at a ∷ result V (at + cost a) b ∷ result V (at + cost a + cost b) c ∷ []) h.0)))

  own_outputs : (at : ℕ) (e : Expr) → IsExpr e → outputs (own_code A V at e) ≡ []
  own_outputs at (Scalar x) h = refl
  own_outputs at (Num w) h = refl
  own_outputs at Turn h = refl
  own_outputs at (In p) h = refl
  own_outputs at (Item a e) h = code_outputs at (Item a e) h
  own_outputs at (Two op a b) h = code_outputs at (Two op a b) h
  own_outputs at (Three op a b c) h = code_outputs at (Three op a b c) h

  stmt_outputs : (at : ℕ) (s : Stmt) → IsStmt s → outputs (stmt_code A V at s) ≡ ports (s ∷ [])
  stmt_outputs at (Bind x e) h = own_outputs at e h
  stmt_outputs at (Assign x e) h = own_outputs at e h
  stmt_outputs at (Put a ix v None) h = none_and (code A V at ix) _ [] (code_outputs at ix h.0) (none_and (code A V (at + cost ix) v) _ [] (code_outputs (at + cost ix) v h.1) refl)
  stmt_outputs at (Put a ix v (Some g)) h =
      none_and (code A V at ix) _ [] (code_outputs at ix h.0)
      (none_and (code A V (at + cost ix) v) _ [] (code_outputs (at + cost ix) v h.1) (none_and (code A V (at + cost ix + cost v) g) _ [] (code_outputs (at + cost ix + cost v) g h.2) refl))
  stmt_outputs at (Emit p v None) h = none_and (code A V at v) _ (p ∷ []) (code_outputs at v h.1) refl
  stmt_outputs at (Emit p v (Some g)) h = none_and (code A V at v) _ (p ∷ []) (code_outputs at v h.1) (none_and (code A V (at + cost v) g) _ (p ∷ []) (code_outputs (at + cost v) g h.2) refl)

ports_first : (s : Stmt) (ss : List Stmt) → ports (s ∷ []) ++ ports ss ≡ ports (s ∷ ss)
ports_first (Bind x e) ss = refl
ports_first (Assign x e) ss = refl
ports_first (Put a ix v g) ss = refl
ports_first (Emit p v g) ss = refl

pub body_outputs : (A : List ℕ → Extent) (V : Env) (at : ℕ) (ss : List Stmt) → AreStmts ss → outputs (body_code A V at ss) ≡ ports ss
body_outputs A V at [] h = refl
body_outputs A V at (s ∷ ss) h =
    outputs_append (stmt_code A V at s) _ ∙ ap₂ (λ a b. a ++ b) (stmt_outputs A V at s h.0) (body_outputs A (stmt_env V at s) (at + stmt_cost s) ss h.1) ∙ ports_first s ss
