-- Operands come from earlier nodes.
use Rattle.std.proofs.Common.{◌≡◌, ℕ, zero, suc, ◌+◌, ◌<◌, ◌≤◌, List, [], ◌∷◌, ◌++◌, length, Option, Some, None, refl, sym, ap, ◌∙◌, subst, arith, ⊎_elim, inl, inr}
use Rattle.std.specs.Prelude.{◌⊎◌, bytes_eq, slice_get, slice_index_or}
use Rattle.std.proofs.lemmas.Bool.{cases_Bool, cond-true, cond-false, cond_both}
use Rattle.cg_word.specs.Word.{words}
use Rattle.cg_model.specs.declared.kernel.Operand.{Operand}
use Rattle.cg_model.specs.declared.kernel.Operand.TheVariants.{Const as Constant, Edge}
use Rattle.cg_model.specs.declared.kernel.Node.{Node}
use Rattle.cg_model.specs.Kernel.{Kernel, IsWired, no_node, size}
use Rattle.cg_model.specs.Limits.{most_memory}
use Rattle.cg_loop_syntax.specs.Loop.{Expr, Num, Turn, In, Scalar, Item, Two, Three, Stmt, Bind, Assign, Put, Emit, Extent, Body, extent, carry}
use Rattle.cg_loop_laws.specs.Meaning.{updated}
use Rattle.cg_loop_laws.specs.Translate.{Env, here, cost, result, code, item_code, own_cost, own_node, own_code, put_code, put_if_code, stmt_cost, stmt_env, stmt_code, body_cost, body_env, body_code, source_of, ends, carried, first_env, loop_kernel_of}
use Rattle.cg_loop_laws.proofs.Sound.{IsExpr, IsStmt, AreStmts, IsBody}
use Rattle.cg_loop_laws.proofs.Texts.{text_same}
use Rattle.cg_loop_laws.proofs.Stands.{length-code, length-stmt_code, length-body_code}

-- an operand of a node v, of m nodes
abbrev pub IsSound : ℕ → ℕ → Operand → Type 0
IsSound m v (Constant c) = c < words
IsSound m v (Edge u d init) = (u < m) × (d ≡ 0 → u < v)

abbrev pub AreSound : ℕ → ℕ → List Operand → Type 0
AreSound m v [] = Unit {0}
AreSound m v (o ∷ os) = IsSound m v o × AreSound m v os

abbrev pub IsSoundCode : ℕ → ℕ → List Node → Type 0
IsSoundCode m at [] = Unit {0}
IsSoundCode m at (n ∷ ns) = AreSound m at n.operands × IsSoundCode m (at + 1) ns

sound_later : (m v w : ℕ) (o : Operand) → v ≤ w → IsSound m v o → IsSound m w o
sound_later m v w (Constant c) l h = h
sound_later m v w (Edge u d init) l h = (h.0, λ e. let x = h.1 e in omega arith)

sound_append : (m at n : ℕ) (xs ys : List Node) → length xs ≡ n → IsSoundCode m at xs → IsSoundCode m (at + n) ys → IsSoundCode m at (xs ++ ys)
sound_append m at n [] ys e h k = subst (λ z. IsSoundCode m z ys) (let f : at + n ≡ at = omega arith in f) k
sound_append m at n (x ∷ xs) ys e h k =
    (h.0, sound_append m (at + 1) (length xs) xs ys refl h.1 (subst (λ z. IsSoundCode m z ys) (let f : at + n ≡ at + 1 + length xs = omega arith in f) k))

sound_operand : (m v p : ℕ) (os : List Operand) (o : Operand) → AreSound m v os → slice_get os p ≡ Some o → IsSound m v o
sound_operand m v p [] o h e = absurd (cc)
sound_operand m v zero (x ∷ os) o h e = let z : x ≡ o = cc in rw z at h.0
sound_operand m v (suc p) (x ∷ os) o h e = sound_operand m v p os o h.1 e

sound_node : (m at k p : ℕ) (ns : List Node) (o : Operand) → IsSoundCode m at ns → slice_get (slice_index_or ns k no_node).operands p ≡ Some o → IsSound m (at + k) o
sound_node m at k p [] o h e = absurd (cc)
sound_node m at zero p (n ∷ ns) o h e = subst (λ z. IsSound m z o) (let f : at ≡ at + 0 = omega arith in f) (sound_operand m at p n.operands o h.0 e)
sound_node m at (suc k) p (n ∷ ns) o h e = subst (λ z. IsSound m z o) (let f : at + 1 + k ≡ at + suc k = omega arith in f) (sound_node m (at + 1) k p ns o h.1 e)

pub wired_from : (K : Kernel) → IsSoundCode (size K) 0 K.nodes → IsWired K
wired_from K h =
    record {
      sources = λ v p u d init l o. (sound_node (size K) 0 v p K.nodes (Edge u d init) h o).0;
      forward = λ v p u init l o. let s = (sound_node (size K) 0 v p K.nodes (Edge u 0 init) h o).1 refl in omega arith;
      constants = λ v p c l o. sound_node (size K) 0 v p K.nodes (Constant c) h o;
    }

-- an environment of sound operands
abbrev pub IsSoundEnv : ℕ → ℕ → Env → Type 0
IsSoundEnv m at V = (x : List ℕ) → IsSound m at (V x)

env_later : (m v w : ℕ) (V : Env) → v ≤ w → IsSoundEnv m v V → IsSoundEnv m w V
env_later m v w V l h x = sound_later m v w (V x) l (h x)

abbrev pub AreLow : (List ℕ → Extent) → Type 0
AreLow A = (a : List ℕ) → (A a).at + (A a).len ≤ most_memory

result_sound : (m at : ℕ) (V : Env) (e : Expr) → IsSoundEnv m at V → at + cost e ≤ m → IsSound m (at + cost e) (result V at e)
result_sound m at V (Num w) s l = (omega arith, λ z. omega arith)
result_sound m at V Turn s l = (omega arith, λ z. omega arith)
result_sound m at V (In p) s l = (omega arith, λ z. omega arith)
result_sound m at V (Scalar x) s l = sound_later m at (at + 0) (V x) (omega arith) (s x)
result_sound m at V (Item a e) s l = (omega arith, λ z. omega arith)
result_sound m at V (Two op a b) s l = (omega arith, λ z. omega arith)
result_sound m at V (Three op a b c) s l = (omega arith, λ z. omega arith)

pub own_last : (at : ℕ) (e : Expr) → own_node at e + 1 ≡ at + own_cost e
own_last at (Scalar x) = refl
own_last at (Num w) = refl
own_last at Turn = refl
own_last at (In p) = refl
own_last at (Item a e) = omega arith
own_last at (Two op a b) = omega arith
own_last at (Three op a b c) = omega arith

module _ (m : ℕ) (A : List ℕ → Extent) (low : AreLow A) where
  small_len : (a : List ℕ) → (A a).len < words
  small_len a = let h = low a in omega arith

  small_at : (a : List ℕ) → (A a).at < words
  small_at a = let h = low a in omega arith

  item_sound : (p : ℕ) (a : List ℕ) (ix : Operand) → IsSound m p ix → p + 3 ≤ m → IsSoundCode m p (item_code (A a) p ix)
  item_sound p a ix s l = (
    (s, (small_len a, tt)),
    ((sound_later m p (p + 1) ix (omega arith) s, (small_at a, tt)), (((omega arith, λ z. omega arith), ((omega arith, λ z. omega arith), tt)), tt)),
  )

  code_sound : (at : ℕ) (V : Env) (e : Expr) → IsSoundEnv m at V → IsExpr e → at + cost e ≤ m → IsSoundCode m at (code A V at e)
  code_sound at V (Num w) s h l = ((h, tt), tt)
  code_sound at V Turn s h l = (tt, tt)
  code_sound at V (In p) s h l = (tt, tt)
  code_sound at V (Scalar x) s h l = tt
  code_sound at V (Item a e) s h l =
      sound_append m at (cost e) (code A V at e) _ (length-code A V at e) (code_sound at V e s h (omega arith)) (item_sound (at + cost e) a (result V at e) (result_sound m at V e s (omega arith)) (omega arith))
  code_sound at V (Two op a b) s h l =
      let sb = env_later m at (at + cost a) V (omega arith) s in
      sound_append m at (cost a) (code A V at a) _ (length-code A V at a) (code_sound at V a s h.1 (omega arith))
      (sound_append m (at + cost a) (cost b) (code A V (at + cost a) b) _ (length-code A V (at + cost a) b) (code_sound (at + cost a) V b sb h.2 (omega arith)) (
        (sound_later m (at + cost a) (at + cost a + cost b) (result V at a) (omega arith) (result_sound m at V a s (omega arith)), (result_sound m (at + cost a) V b sb (omega arith), tt)),
        tt,
      ))
  code_sound at V (Three op a b c) s h l =
      let sb = env_later m at (at + cost a) V (omega arith) s in
      let sc = env_later m at (at + cost a + cost b) V (omega arith) s in
      sound_append m at (cost a) (code A V at a) _ (length-code A V at a) (code_sound at V a s h.1 (omega arith))
      (sound_append m (at + cost a) (cost b) (code A V (at + cost a) b) _ (length-code A V (at + cost a) b) (code_sound (at + cost a) V b sb h.2 (omega arith))
      (sound_append m (at + cost a + cost b) (cost c) (code A V (at + cost a + cost b) c) _ (length-code A V (at + cost a + cost b) c) (code_sound (at + cost a + cost b) V c sc h.3 (omega arith)) (
        (
          sound_later m (at + cost a) (at + cost a + cost b + cost c) (result V at a) (omega arith) (result_sound m at V a s (omega arith)),
          (
            sound_later m (at + cost a + cost b) (at + cost a + cost b + cost c) (result V (at + cost a) b) (omega arith) (result_sound m (at + cost a) V b sb (omega arith)),
            (result_sound m (at + cost a + cost b) V c sc (omega arith), tt),
          ),
        ),
        tt,
      )))

  own_sound : (at : ℕ) (V : Env) (e : Expr) → IsSoundEnv m at V → IsExpr e → at + own_cost e ≤ m → IsSoundCode m at (own_code A V at e)
  own_sound at V (Scalar x) s h l = ((s x, tt), tt)
  own_sound at V (Num w) s h l = code_sound at V (Num w) s h l
  own_sound at V Turn s h l = (tt, tt)
  own_sound at V (In p) s h l = (tt, tt)
  own_sound at V (Item a e) s h l = code_sound at V (Item a e) s h l
  own_sound at V (Two op a b) s h l = code_sound at V (Two op a b) s h l
  own_sound at V (Three op a b c) s h l = code_sound at V (Three op a b c) s h l

  put_sound : (p : ℕ) (a : List ℕ) (ix v : Operand) → IsSound m p ix → IsSound m p v → p + 3 ≤ m → IsSoundCode m p (put_code (A a) p ix v)
  put_sound p a ix v s t l = (
    (s, (small_len a, tt)),
    (
      (sound_later m p (p + 1) ix (omega arith) s, (small_at a, tt)),
      (((omega arith, λ z. omega arith), ((omega arith, λ z. omega arith), (sound_later m p (p + 1 + 1) v (omega arith) t, tt))), tt),
    ),
  )

  put_if_sound : (p : ℕ) (a : List ℕ) (ix v g : Operand) → IsSound m p ix → IsSound m p v → IsSound m p g → p + 5 ≤ m → IsSoundCode m p (put_if_code (A a) p ix v g)
  put_if_sound p a ix v g s t r l = (
    (s, (small_len a, tt)),
    (
      (sound_later m p (p + 1) ix (omega arith) s, (small_at a, tt)),
      (
        (sound_later m p (p + 1 + 1) g (omega arith) r, (omega arith, tt)),
        (
          ((omega arith, λ z. omega arith), ((omega arith, λ z. omega arith), tt)),
          (((omega arith, λ z. omega arith), ((omega arith, λ z. omega arith), (sound_later m p (p + 1 + 1 + 1 + 1) v (omega arith) t, tt))), tt),
        ),
      ),
    ),
  )

  stmt_sound : (at : ℕ) (V : Env) (s : Stmt) → IsSoundEnv m at V → IsStmt s → at + stmt_cost s ≤ m → IsSoundCode m at (stmt_code A V at s)
  stmt_sound at V (Bind x e) s h l = own_sound at V e s h l
  stmt_sound at V (Assign x e) s h l = own_sound at V e s h l
  stmt_sound at V (Put a ix v None) s h l =
      let sv = env_later m at (at + cost ix) V (omega arith) s in
      sound_append m at (cost ix) (code A V at ix) _ (length-code A V at ix) (code_sound at V ix s h.0 (omega arith))
      (sound_append m (at + cost ix) (cost v) (code A V (at + cost ix) v) _ (length-code A V (at + cost ix) v) (code_sound (at + cost ix) V v sv h.1 (omega arith))
      (put_sound (at + cost ix + cost v) a _ _ (sound_later m (at + cost ix) _ (result V at ix) (omega arith) (result_sound m at V ix s (omega arith))) (result_sound m (at + cost ix) V v sv (omega arith)) (omega arith)))
  stmt_sound at V (Put a ix v (Some g)) s h l =
      let sv = env_later m at (at + cost ix) V (omega arith) s in
      let sg = env_later m at (at + cost ix + cost v) V (omega arith) s in
      sound_append m at (cost ix) (code A V at ix) _ (length-code A V at ix) (code_sound at V ix s h.0 (omega arith))
      (sound_append m (at + cost ix) (cost v) (code A V (at + cost ix) v) _ (length-code A V (at + cost ix) v) (code_sound (at + cost ix) V v sv h.1 (omega arith))
      (sound_append m (at + cost ix + cost v) (cost g) (code A V (at + cost ix + cost v) g) _ (length-code A V (at + cost ix + cost v) g) (code_sound (at + cost ix + cost v) V g sg h.2 (omega arith))
      (put_if_sound (at + cost ix + cost v + cost g) a _ _ _
      (sound_later m (at + cost ix) _ (result V at ix) (omega arith) (result_sound m at V ix s (omega arith)))
      (sound_later m (at + cost ix + cost v) _ (result V (at + cost ix) v) (omega arith) (result_sound m (at + cost ix) V v sv (omega arith)))
      (result_sound m (at + cost ix + cost v) V g sg (omega arith)) (omega arith))))
  stmt_sound at V (Emit p v None) s h l =
      sound_append m at (cost v) (code A V at v) _ (length-code A V at v) (code_sound at V v s h.1 (omega arith)) ((result_sound m at V v s (omega arith), tt), tt)
  stmt_sound at V (Emit p v (Some g)) s h l =
      let sg = env_later m at (at + cost v) V (omega arith) s in
      sound_append m at (cost v) (code A V at v) _ (length-code A V at v) (code_sound at V v s h.1 (omega arith))
      (sound_append m (at + cost v) (cost g) (code A V (at + cost v) g) _ (length-code A V (at + cost v) g) (code_sound (at + cost v) V g sg h.2 (omega arith))
      ((result_sound m (at + cost v) V g sg (omega arith), (sound_later m (at + cost v) _ (result V at v) (omega arith) (result_sound m at V v s (omega arith)), tt)), tt))

  updated_sound : (v u : ℕ) (x : List ℕ) (V : Env) → IsSoundEnv m v V → u < v → v ≤ m → IsSoundEnv m v (updated V x (here u))
  updated_sound v u x V s l h y = cond_both (bytes_eq y x) (here u) (V y) (IsSound m v) (λ e. (omega arith, λ z. l)) (λ e. s y)

  env_sound : (at : ℕ) (V : Env) (s : Stmt) → IsSoundEnv m at V → at + stmt_cost s ≤ m → IsSoundEnv m (at + stmt_cost s) (stmt_env V at s)
  env_sound at V (Bind x e) s l = updated_sound (at + own_cost e) (own_node at e) x V (env_later m at (at + own_cost e) V (omega arith) s) (let f = own_last at e in omega arith) l
  env_sound at V (Assign x e) s l = updated_sound (at + own_cost e) (own_node at e) x V (env_later m at (at + own_cost e) V (omega arith) s) (let f = own_last at e in omega arith) l
  env_sound at V (Put a ix v g) s l = env_later m at _ V (omega arith) s
  env_sound at V (Emit p v g) s l = env_later m at _ V (omega arith) s

  body_sound : (at : ℕ) (V : Env) (ss : List Stmt) → IsSoundEnv m at V → AreStmts ss → at + body_cost ss ≤ m → IsSoundCode m at (body_code A V at ss)
  body_sound at V [] s h l = tt
  body_sound at V (st ∷ ss) s h l =
      sound_append m at (stmt_cost st) (stmt_code A V at st) _ (length-stmt_code A V at st) (stmt_sound at V st s h.0 (omega arith))
      (body_sound (at + stmt_cost st) (stmt_env V at st) ss (env_sound at V st s (omega arith)) h.1 (omega arith))

updated_cases : (at : ℕ) (x y : List ℕ) (e : Expr) → ((u : ℕ) × (u < at + own_cost e) × ((W : Env) → updated W y (here (own_node at e)) x ≡ here u)) ⊎ ((W : Env) → updated W y (here (own_node at e)) x ≡ W x)
updated_cases at x y e =
    ⊎_elim (λ t. inl (own_node at e, let f = own_last at e in omega arith, λ W. cond-true (bytes_eq x y) (here (own_node at e)) (W x) t)) (λ t. inr (λ W. cond-false (bytes_eq x y) (here (own_node at e)) (W x) t))
    (cases_Bool (bytes_eq x y))

-- what a name stands for at the end: a node of the body, or what it stood for at the start
abbrev pub IsSet : ℕ → ℕ → List Stmt → List ℕ → Type 0
IsSet at top ss x = (u : ℕ) × (u < top) × ((W : Env) → body_env W at ss x ≡ here u)

abbrev pub IsKept : ℕ → List Stmt → List ℕ → Type 0
IsKept at ss x = (W : Env) → body_env W at ss x ≡ W x

stmt_cases : (at : ℕ) (x : List ℕ) (s : Stmt) → ((u : ℕ) × (u < at + stmt_cost s) × ((W : Env) → stmt_env W at s x ≡ here u)) ⊎ ((W : Env) → stmt_env W at s x ≡ W x)
stmt_cases at x (Bind y e) = updated_cases at x y e
stmt_cases at x (Assign y e) = updated_cases at x y e
stmt_cases at x (Put a ix v g) = inr (λ W. refl)
stmt_cases at x (Emit p v g) = inr (λ W. refl)

body_cases : (at : ℕ) (x : List ℕ) (ss : List Stmt) → IsSet at (at + body_cost ss) ss x ⊎ IsKept at ss x
body_cases at x [] = inr (λ W. refl)
body_cases at x (s ∷ ss) =
    ⊎_elim (λ h. inl (h.0, let l = h.1 in omega arith, λ W. h.2 (stmt_env W at s)))
    (λ h.
    ⊎_elim (λ k. inl (k.0, let l = k.1 in omega arith, λ W. h (stmt_env W at s) ∙ k.2 W)) (λ k. inr (λ W. h (stmt_env W at s) ∙ k W)) (stmt_cases at x s))
    (body_cases (at + stmt_cost s) x ss)

body_set : (at : ℕ) (x : List ℕ) (k : ℕ) (e : Expr) (ss : List Stmt) → slice_get ss k ≡ Some (Assign x e) → IsSet at (at + body_cost ss) ss x
body_set at x k e [] h = absurd (cc)
body_set at x zero e (s ∷ ss) h =
    let z : s ≡ Assign x e = cc in
    ⊎_elim (λ c. (c.0, let l = c.1 in omega arith, λ W. c.2 (stmt_env W at s)))
    (λ c. (
      own_node at e,
      let f = own_last at e in let g : stmt_cost s ≡ own_cost e = rw z refl in omega arith,
      λ W. c (stmt_env W at s) ∙ rw z (cond-true (bytes_eq x x) (here (own_node at e)) (W x) (text_same x x refl)),
    ))
    (body_cases (at + stmt_cost s) x ss)
body_set at x (suc k) e (s ∷ ss) h = let r = body_set (at + stmt_cost s) x k e ss h in (r.0, let l = r.1 in omega arith, λ W. r.2 (stmt_env W at s))

pub ends_set : (ss : List Stmt) (x : List ℕ) (k : ℕ) (e : Expr) → slice_get ss k ≡ Some (Assign x e) → (ends ss x < body_cost ss) × ((W : Env) → body_env W 0 ss x ≡ here (ends ss x))
ends_set ss x k e h =
    let r = body_set 0 x k e ss h in
    let z : ends ss x ≡ r.0 = ap source_of (r.2 (λ y. Constant 0)) in
    (let l = r.1 in omega arith, λ W. r.2 W ∙ ap here (sym z))

carried_sound : (m u : ℕ) (o : Option ℕ) → ((w : ℕ) → o ≡ Some w → u < m) → IsSound m 0 (carried u o)
carried_sound m u None h = omega arith
carried_sound m u (Some w) h = (h w refl, λ z. absurd (omega arith))

pub size-loop_kernel : (P : Body) → size (loop_kernel_of P) ≡ body_cost P.stmts
size-loop_kernel P = length-body_code (extent P.decls) (first_env P) 0 P.stmts

pub wired : (P : Body) → IsBody P → IsWired (loop_kernel_of P)
wired P good =
    wired_from (loop_kernel_of P)
    (body_sound (size (loop_kernel_of P)) (extent P.decls) good.low 0 (first_env P) P.stmts
    (λ x. carried_sound (size (loop_kernel_of P)) (ends P.stmts x) (carry P.decls x) (λ w e. let a = good.assigned x w e in let l = (ends_set P.stmts x a.0 a.1 a.2).0 in omega (arith, size-loop_kernel P)))
    good.stmts (omega (arith, size-loop_kernel P)))
