-- Operands come from nodes with values, over at most one turn, with a word for each.
use Rattle.std.proofs.Common.{◌≡◌, ℕ, zero, suc, ◌+◌, ◌<◌, ◌≤◌, List, [], ◌∷◌, ◌++◌, length, Option, Some, None, true, refl, ap, ◌∙◌, subst, arith}
use Rattle.std.specs.Prelude.{bytes_eq, slice_get, slice_index, slice_index_or}
use Rattle.std.proofs.lemmas.Bool.{cond_both}
use Rattle.cg_word.specs.declared.op.Op.{Op}
use Rattle.cg_word.specs.declared.op.Op.TheVariants.{Store, Output, StoreIf, OutputIf}
use Rattle.cg_word.specs.Word.{words, has_value}
use Rattle.cg_model.specs.declared.kernel.Operand.{Operand}
use Rattle.cg_model.specs.declared.kernel.Operand.TheVariants.{Const as Constant, Edge}
use Rattle.cg_model.specs.declared.kernel.Node.{Node}
use Rattle.cg_model.specs.Kernel.{Kernel, HasOperand, no_node, node}
use Rattle.cg_loop_syntax.specs.Loop.{Expr, Num, Turn, In, Scalar, Item, Two, Three, Stmt, Bind, Assign, Put, Emit, Extent, Body, extent, carry}
use Rattle.cg_loop_laws.specs.Translate.{Env, here, cost, result, code, item_code, own_node, own_code, stmt_cost, stmt_env, stmt_code, body_env, body_code, ends, carried, first_env, loop_kernel_of}
use Rattle.cg_loop_laws.proofs.Sound.{is_word, IsExpr, IsStmt, AreStmts, IsBody}
use Rattle.cg_loop_laws.proofs.Stands.{Stands, stands_append, stands_from, length-code, length-stmt_code}
use Rattle.cg_loop_laws.proofs.Wired.{ends_set}

-- a source of a data edge, and the edge
pub record IsSource (K : Kernel) (u d : ℕ) (init : List ℕ) : Type 0 where
  pub valued : has_value (node K u).op ≡ true
  pub near : d ≤ 1
  pub inits : length init ≡ d
  pub init_words : (k : ℕ) → slice_index init k < words

abbrev pub IsFed : Kernel → Operand → Type 0
IsFed K (Constant c) = Unit {0}
IsFed K (Edge u d init) = IsSource K u d init

abbrev AreFed : Kernel → List Operand → Type 0
AreFed K [] = Unit {0}
AreFed K (o ∷ os) = IsFed K o × AreFed K os

abbrev IsFedCode : Kernel → List Node → Type 0
IsFedCode K [] = Unit {0}
IsFedCode K (n ∷ ns) = AreFed K n.operands × IsFedCode K ns

abbrev IsFedEnv : Kernel → Env → Type 0
IsFedEnv K V = (x : List ℕ) → IsFed K (V x)

fed_append : (K : Kernel) (xs ys : List Node) → IsFedCode K xs → IsFedCode K ys → IsFedCode K (xs ++ ys)
fed_append K [] ys h k = k
fed_append K (x ∷ xs) ys h k = (h.0, fed_append K xs ys h.1 k)

fed_operand : (K : Kernel) (p : ℕ) (os : List Operand) (o : Operand) → AreFed K os → slice_get os p ≡ Some o → IsFed K o
fed_operand K p [] o h e = absurd (cc)
fed_operand K zero (x ∷ os) o h e = let z : x ≡ o = cc in subst (IsFed K) z h.0
fed_operand K (suc p) (x ∷ os) o h e = fed_operand K p os o h.1 e

fed_node : (K : Kernel) (v p : ℕ) (ns : List Node) (o : Operand) → IsFedCode K ns → slice_get (slice_index_or ns v no_node).operands p ≡ Some o → IsFed K o
fed_node K v p [] o h e = absurd (cc)
fed_node K zero p (n ∷ ns) o h e = fed_operand K p n.operands o h.0 e
fed_node K (suc v) p (n ∷ ns) o h e = fed_node K v p ns o h.1 e

word_valued : (op : Op) → is_word op ≡ true → has_value op ≡ true
word_valued Store h = absurd (cc)
word_valued Output h = absurd (cc)
word_valued StoreIf h = absurd (cc)
word_valued OutputIf h = absurd (cc)
word_valued _ h = refl

module _ (K : Kernel) (A : List ℕ → Extent) where
  -- an operand of the same turn
  here_fed : (u : ℕ) → has_value (node K u).op ≡ true → IsFed K (here u)
  here_fed u h = record { valued = h; near = omega arith; inits = refl; init_words = λ k. omega arith }

  valued_at : (u q : ℕ) (n : Node) → u ≡ q → node K q ≡ n → has_value n.op ≡ true → has_value (node K u).op ≡ true
  valued_at u q n z e h = ap (λ v. has_value (node K v).op) z ∙ ap (λ m. has_value m.op) e ∙ h

  fed_at : (u q : ℕ) (n : Node) → u ≡ q → node K q ≡ n → has_value n.op ≡ true → IsFed K (here u)
  fed_at u q n z e h = here_fed u (valued_at u q n z e h)

  result_fed : (V : Env) (at : ℕ) (e : Expr) → IsFedEnv K V → IsExpr e → Stands K at (code A V at e) → IsFed K (result V at e)
  result_fed V at (Num w) g h st = fed_at at at _ refl st.1 refl
  result_fed V at Turn g h st = fed_at at at _ refl st.1 refl
  result_fed V at (In p) g h st = fed_at at at _ refl st.1 refl
  result_fed V at (Scalar x) g h st = g x
  result_fed V at (Item a e) g h st =
      let (front, (l0, e0, (l1, e1, (l2, e2, end)))) = stands_append K at (code A V at e) _ (cost e) (length-code A V at e) st in fed_at (at + cost e + 2) (at + cost e + 1 + 1) _ (omega arith) e2 refl
  result_fed V at (Two op a b) g h st =
      let (front, rest) = stands_append K at (code A V at a) _ (cost a) (length-code A V at a) st in
      let (middle, last) = stands_append K (at + cost a) (code A V (at + cost a) b) _ (cost b) (length-code A V (at + cost a) b) rest in
      fed_at (at + cost a + cost b) (at + cost a + cost b) _ refl last.1 (word_valued op h.0)
  result_fed V at (Three op a b c) g h st =
      let (front, rest) = stands_append K at (code A V at a) _ (cost a) (length-code A V at a) st in
      let (middle, rest') = stands_append K (at + cost a) (code A V (at + cost a) b) _ (cost b) (length-code A V (at + cost a) b) rest in
      let (third, last) = stands_append K (at + cost a + cost b) (code A V (at + cost a + cost b) c) _ (cost c) (length-code A V (at + cost a + cost b) c) rest' in
      fed_at (at + cost a + cost b + cost c) (at + cost a + cost b + cost c) _ refl last.1 (word_valued op h.0)

  item_fed : (p : ℕ) (r : Extent) (ix : Operand) → IsFed K ix → Stands K p (item_code r p ix) → IsFedCode K (item_code r p ix)
  item_fed p r ix g (l0, e0, (l1, e1, (l2, e2, end))) =
      ((g, (tt, tt)), ((g, (tt, tt)), ((fed_at p p _ refl e0 refl, (fed_at (p + 1) (p + 1) _ refl e1 refl, tt)), tt)))

  code_fed : (V : Env) (at : ℕ) (e : Expr) → IsFedEnv K V → IsExpr e → Stands K at (code A V at e) → IsFedCode K (code A V at e)
  code_fed V at (Num w) g h st = ((tt, tt), tt)
  code_fed V at Turn g h st = (tt, tt)
  code_fed V at (In p) g h st = (tt, tt)
  code_fed V at (Scalar x) g h st = tt
  code_fed V at (Item a e) g h st =
      let (front, back) = stands_append K at (code A V at e) _ (cost e) (length-code A V at e) st in
      fed_append K (code A V at e) _ (code_fed V at e g h front) (item_fed (at + cost e) (A a) (result V at e) (result_fed V at e g h front) back)
  code_fed V at (Two op a b) g h st =
      let (front, rest) = stands_append K at (code A V at a) _ (cost a) (length-code A V at a) st in
      let (middle, last) = stands_append K (at + cost a) (code A V (at + cost a) b) _ (cost b) (length-code A V (at + cost a) b) rest in
      fed_append K (code A V at a) _ (code_fed V at a g h.1 front)
      (fed_append K (code A V (at + cost a) b) _ (code_fed V (at + cost a) b g h.2 middle) ((result_fed V at a g h.1 front, (result_fed V (at + cost a) b g h.2 middle, tt)), tt))
  code_fed V at (Three op a b c) g h st =
      let (front, rest) = stands_append K at (code A V at a) _ (cost a) (length-code A V at a) st in
      let (middle, rest') = stands_append K (at + cost a) (code A V (at + cost a) b) _ (cost b) (length-code A V (at + cost a) b) rest in
      let (third, last) = stands_append K (at + cost a + cost b) (code A V (at + cost a + cost b) c) _ (cost c) (length-code A V (at + cost a + cost b) c) rest' in
      fed_append K (code A V at a) _ (code_fed V at a g h.1 front)
      (fed_append K (code A V (at + cost a) b) _ (code_fed V (at + cost a) b g h.2 middle)
      (fed_append K (code A V (at + cost a + cost b) c) _ (code_fed V (at + cost a + cost b) c g h.3 third)
      ((result_fed V at a g h.1 front, (result_fed V (at + cost a) b g h.2 middle, (result_fed V (at + cost a + cost b) c g h.3 third, tt))), tt)))

  own_fed : (V : Env) (at : ℕ) (e : Expr) → IsFedEnv K V → IsExpr e → Stands K at (own_code A V at e) → IsFedCode K (own_code A V at e)
  own_fed V at (Scalar x) g h st = ((g x, tt), tt)
  own_fed V at (Num w) g h st = code_fed V at (Num w) g h st
  own_fed V at Turn g h st = code_fed V at Turn g h st
  own_fed V at (In p) g h st = code_fed V at (In p) g h st
  own_fed V at (Item a e) g h st = code_fed V at (Item a e) g h st
  own_fed V at (Two op a b) g h st = code_fed V at (Two op a b) g h st
  own_fed V at (Three op a b c) g h st = code_fed V at (Three op a b c) g h st

  stmt_fed : (V : Env) (at : ℕ) (s : Stmt) → IsFedEnv K V → IsStmt s → Stands K at (stmt_code A V at s) → IsFedCode K (stmt_code A V at s)
  stmt_fed V at (Bind x e) g h st = own_fed V at e g h st
  stmt_fed V at (Assign x e) g h st = own_fed V at e g h st
  stmt_fed V at (Put a ix v None) g h st =
      let (front, rest) = stands_append K at (code A V at ix) _ (cost ix) (length-code A V at ix) st in
      let (middle, (l0, e0, (l1, e1, last))) = stands_append K (at + cost ix) (code A V (at + cost ix) v) _ (cost v) (length-code A V (at + cost ix) v) rest in
      let gi = result_fed V at ix g h.0 front in
      let gv = result_fed V (at + cost ix) v g h.1 middle in
      let p = at + cost ix + cost v in
      fed_append K (code A V at ix) _ (code_fed V at ix g h.0 front)
      (fed_append K (code A V (at + cost ix) v) _ (code_fed V (at + cost ix) v g h.1 middle)
      ((gi, (tt, tt)), ((gi, (tt, tt)), ((fed_at p p _ refl e0 refl, (fed_at (p + 1) (p + 1) _ refl e1 refl, (gv, tt))), tt))))
  stmt_fed V at (Put a ix v (Some u)) g h st =
      let (front, rest) = stands_append K at (code A V at ix) _ (cost ix) (length-code A V at ix) st in
      let (middle, rest') = stands_append K (at + cost ix) (code A V (at + cost ix) v) _ (cost v) (length-code A V (at + cost ix) v) rest in
      let (third, (l0, e0, (l1, e1, (l2, e2, (l3, e3, last))))) = stands_append K (at + cost ix + cost v) (code A V (at + cost ix + cost v) u) _ (cost u) (length-code A V (at + cost ix + cost v) u) rest' in
      let gi = result_fed V at ix g h.0 front in
      let gv = result_fed V (at + cost ix) v g h.1 middle in
      let gu = result_fed V (at + cost ix + cost v) u g h.2 third in
      let p = at + cost ix + cost v + cost u in
      fed_append K (code A V at ix) _ (code_fed V at ix g h.0 front)
      (fed_append K (code A V (at + cost ix) v) _ (code_fed V (at + cost ix) v g h.1 middle)
      (fed_append K (code A V (at + cost ix + cost v) u) _ (code_fed V (at + cost ix + cost v) u g h.2 third) (
        (gi, (tt, tt)),
        (
          (gi, (tt, tt)),
          (
            (gu, (tt, tt)),
            (
              (fed_at p p _ refl e0 refl, (fed_at (p + 2) (p + 1 + 1) _ (omega arith) e2 refl, tt)),
              ((fed_at (p + 3) (p + 1 + 1 + 1) _ (omega arith) e3 refl, (fed_at (p + 1) (p + 1) _ refl e1 refl, (gv, tt))), tt),
            ),
          ),
        ),
      )))
  stmt_fed V at (Emit p v None) g h st =
      let (front, last) = stands_append K at (code A V at v) _ (cost v) (length-code A V at v) st in
      fed_append K (code A V at v) _ (code_fed V at v g h.1 front) ((result_fed V at v g h.1 front, tt), tt)
  stmt_fed V at (Emit p v (Some u)) g h st =
      let (front, rest) = stands_append K at (code A V at v) _ (cost v) (length-code A V at v) st in
      let (middle, last) = stands_append K (at + cost v) (code A V (at + cost v) u) _ (cost u) (length-code A V (at + cost v) u) rest in
      fed_append K (code A V at v) _ (code_fed V at v g h.1 front)
      (fed_append K (code A V (at + cost v) u) _ (code_fed V (at + cost v) u g h.2 middle) ((result_fed V (at + cost v) u g h.2 middle, (result_fed V at v g h.1 front, tt)), tt))

  -- the node of a name's value has a value, whatever the names before it stand for
  own_valued : (V : Env) (at : ℕ) (e : Expr) → IsExpr e → Stands K at (own_code A V at e) → has_value (node K (own_node at e)).op ≡ true
  own_valued V at (Scalar x) h st = valued_at at at _ refl st.1 refl
  own_valued V at (Num w) h st = valued_at at at _ refl st.1 refl
  own_valued V at Turn h st = valued_at at at _ refl st.1 refl
  own_valued V at (In p) h st = valued_at at at _ refl st.1 refl
  own_valued V at (Item a e) h st =
      let (front, (l0, e0, (l1, e1, (l2, e2, end)))) = stands_append K at (code A V at e) _ (cost e) (length-code A V at e) st in valued_at (at + cost e + 2) (at + cost e + 1 + 1) _ (omega arith) e2 refl
  own_valued V at (Two op a b) h st =
      let (front, rest) = stands_append K at (code A V at a) _ (cost a) (length-code A V at a) st in
      let (middle, last) = stands_append K (at + cost a) (code A V (at + cost a) b) _ (cost b) (length-code A V (at + cost a) b) rest in
      valued_at (at + cost a + cost b) (at + cost a + cost b) _ refl last.1 (word_valued op h.0)
  own_valued V at (Three op a b c) h st =
      let (front, rest) = stands_append K at (code A V at a) _ (cost a) (length-code A V at a) st in
      let (middle, rest') = stands_append K (at + cost a) (code A V (at + cost a) b) _ (cost b) (length-code A V (at + cost a) b) rest in
      let (third, last) = stands_append K (at + cost a + cost b) (code A V (at + cost a + cost b) c) _ (cost c) (length-code A V (at + cost a + cost b) c) rest' in
      valued_at (at + cost a + cost b + cost c) (at + cost a + cost b + cost c) _ refl last.1 (word_valued op h.0)

  env_fed : (V W : Env) (at : ℕ) (s : Stmt) → IsFedEnv K W → IsStmt s → Stands K at (stmt_code A V at s) → IsFedEnv K (stmt_env W at s)
  env_fed V W at (Bind x e) g h st y = cond_both (bytes_eq y x) (here (own_node at e)) (W y) (IsFed K) (λ t. here_fed (own_node at e) (own_valued V at e h st)) (λ t. g y)
  env_fed V W at (Assign x e) g h st y = cond_both (bytes_eq y x) (here (own_node at e)) (W y) (IsFed K) (λ t. here_fed (own_node at e) (own_valued V at e h st)) (λ t. g y)
  env_fed V W at (Put a ix v u) g h st y = g y
  env_fed V W at (Emit p v u) g h st y = g y

  end_fed : (V W : Env) (at : ℕ) (ss : List Stmt) → IsFedEnv K W → AreStmts ss → Stands K at (body_code A V at ss) → IsFedEnv K (body_env W at ss)
  end_fed V W at [] g h st = g
  end_fed V W at (s ∷ ss) g h st =
      let (front, rest) = stands_append K at (stmt_code A V at s) _ (stmt_cost s) (length-stmt_code A V at s) st in
      end_fed (stmt_env V at s) (stmt_env W at s) (at + stmt_cost s) ss (env_fed V W at s g h.0 front) h.1 rest

  body_fed : (V : Env) (at : ℕ) (ss : List Stmt) → IsFedEnv K V → AreStmts ss → Stands K at (body_code A V at ss) → IsFedCode K (body_code A V at ss)
  body_fed V at [] g h st = tt
  body_fed V at (s ∷ ss) g h st =
      let (front, rest) = stands_append K at (stmt_code A V at s) _ (stmt_cost s) (length-stmt_code A V at s) st in
      fed_append K (stmt_code A V at s) _ (stmt_fed V at s g h.0 front) (body_fed (stmt_env V at s) (at + stmt_cost s) ss (env_fed V V at s g h.0 front) h.1 rest)

-- ---- the kernel's operands

one_word : (w k : ℕ) → w < words → slice_index (w ∷ []) k < words
one_word w zero l = l
one_word w (suc k) l = omega arith

carried_fed : (K : Kernel) (u : ℕ) (o : Option ℕ) → ((w : ℕ) → o ≡ Some w → (w < words) × (has_value (node K u).op ≡ true)) → IsFed K (carried u o)
carried_fed K u None h = tt
carried_fed K u (Some w) h = let r = h w refl in record { valued = r.1; near = omega arith; inits = refl; init_words = λ k. one_word w k r.0 }

module _ (P : Body) (good : IsBody P) where
  abbrev K : Kernel
  K = loop_kernel_of P

  stands : Stands K 0 (body_code (extent P.decls) (first_env P) 0 P.stmts)
  stands = stands_from K [] (body_code (extent P.decls) (first_env P) 0 P.stmts) refl

  first_fed : IsFedEnv K (first_env P)
  first_fed x =
      carried_fed K (ends P.stmts x) (carry P.decls x)
      (λ w e.
      let a = good.assigned x w e in
      let f = end_fed K (extent P.decls) (first_env P) (λ y. Constant 0) 0 P.stmts (λ y. tt) good.stmts stands x in
      let s : IsSource K (ends P.stmts x) 0 [] = subst (IsFed K) ((ends_set P.stmts x a.0 a.1 a.2).1 (λ y. Constant 0)) f in
      (good.starts x w e, s.valued))

  pub fed : (v p u d : ℕ) (init : List ℕ) → HasOperand K v p (Edge u d init) → IsSource K u d init
  fed v p u d init o = fed_node K v p K.nodes (Edge u d init) (body_fed K (extent P.decls) (first_env P) 0 P.stmts first_fed good.stmts stands) o
