-- The code of a body, statement by statement.
use Rattle.std.proofs.Common.{◌≡◌, ℕ, ◌+◌, ◌<◌, List, [], ◌∷◌, ◌++◌, length, get_or, take, map, refl, Some, None, length-append, sym, ap, ap₂, ◌∙◌, arith, append_assoc, append-nil}
use Rattle.std.specs.List.{flat_map}
use Rattle.cg_model.specs.declared.kernel.Node.{Node}
use Rattle.cg_model.specs.declared.kernel.OrderEdge.{OrderEdge}
use Rattle.cg_model.specs.Kernel.{size}
use Rattle.cg_loop_syntax.specs.declared.body.Decl.{Decl}
use Rattle.cg_loop_syntax.specs.declared.body.LoopBody.{LoopBody}
use Rattle.cg_loop_syntax.specs.Body.{body_of}
use Rattle.cg_loop_syntax.specs.declared.body.Stmt.{Stmt as WrittenStmt}
use Rattle.cg_loop_syntax.specs.Grouped.{grouped, stmt_of}
use Rattle.cg_loop_syntax.specs.Loop.{Expr, Num, Turn, In, Scalar, Item, Two, Three, Extent, Stmt, Bind, Assign, Put, Emit, Body, extent}
use Rattle.cg_loop_laws.specs.Translate.{Access, Env, code, cost, own_code, own_cost, loop_kernel_of, accesses, decl_edges, body_code, body_cost, body_env, first_env, stmt_accesses, stmt_code, stmt_cost, stmt_env}
use Rattle.cg_loop.specs.declared.scope.Scope.{Scope}
use Rattle.cg_loop.specs.Known.{bindings, carries, env_in, env_of, known_of}
use Rattle.cg_loop.specs.Made.{Made, Executes}
use Rattle.cg_loop.proofs.Costs.{map_step}
use Rattle.cg_loop.proofs.Envs.{env_behind}

body_code_push : (A : List ℕ → Extent) (V : Env) (at : ℕ) (ss : List Stmt) (s : Stmt) → body_code A V at (ss ++ s ∷ []) ≡ body_code A V at ss ++ stmt_code A (body_env V at ss) (at + body_cost ss) s
body_code_push A V at [] s = append-nil _ ∙ ap (λ p. stmt_code A V p s) (omega arith)
body_code_push A V at (r ∷ ss) s =
    ap (λ z. stmt_code A V at r ++ z) (body_code_push A (stmt_env V at r) (at + stmt_cost r) ss s ∙ ap (λ p. body_code A (stmt_env V at r) (at + stmt_cost r) ss ++ stmt_code A (body_env (stmt_env V at r) (at + stmt_cost r) ss) p s) (omega arith))
    ∙ sym (append_assoc (stmt_code A V at r) _ _)

accesses_push : (at : ℕ) (ss : List Stmt) (s : Stmt) → accesses at (ss ++ s ∷ []) ≡ accesses at ss ++ stmt_accesses (at + body_cost ss) s
accesses_push at [] s = append-nil _ ∙ ap (λ p. stmt_accesses p s) (omega arith)
accesses_push at (r ∷ ss) s =
    ap (λ z. stmt_accesses at r ++ z) (accesses_push (at + stmt_cost r) ss s ∙ ap (λ p. accesses (at + stmt_cost r) ss ++ stmt_accesses p s) (omega arith))
    ∙ sym (append_assoc (stmt_accesses at r) _ _)

-- one more statement
module _ (ds : List Decl) (ss : List WrittenStmt) (i : ℕ) (s : WrittenStmt) (l : i < length ss) (is : s ≡ get_or ss i s) (scope : Scope) (m n : Made) (here : scope.decls.now ≡ ds)
    (known : map known_of scope.known.now ≡ carries (bindings 0 (map stmt_of ss)) ds ++ bindings 0 (map stmt_of (take i ss)))
    (size : length m.nodes ≡ body_cost (map stmt_of (take i ss))) (step : Executes scope m n (stmt_of s)) where
  env_is : env_in scope ≡ body_env (first_env (grouped ds ss)) 0 (map stmt_of (take i ss))
  env_is = ap env_of known ∙ env_behind (grouped ds ss) (map stmt_of (take i ss))

  pub nodes_step : m.nodes ≡ body_code (extent ds) (first_env (grouped ds ss)) 0 (map stmt_of (take i ss)) → n.nodes ≡ body_code (extent ds) (first_env (grouped ds ss)) 0 (map stmt_of (take (i + 1) ss))
  nodes_step e =
      step.nodes
      ∙ ap₂ (λ D V. m.nodes ++ stmt_code (extent D) V (length m.nodes) (stmt_of s)) here env_is
      ∙ ap₂ (λ z p. z ++ stmt_code (extent ds) (body_env (first_env (grouped ds ss)) 0 (map stmt_of (take i ss))) p (stmt_of s)) e (size ∙ omega arith)
      ∙ sym (ap (body_code (extent ds) (first_env (grouped ds ss)) 0) (map_step stmt_of ss i s l is) ∙ body_code_push (extent ds) (first_env (grouped ds ss)) 0 (map stmt_of (take i ss)) (stmt_of s))

  pub accesses_step : m.accesses ≡ accesses 0 (map stmt_of (take i ss)) → n.accesses ≡ accesses 0 (map stmt_of (take (i + 1) ss))
  accesses_step e =
      step.accesses
      ∙ ap₂ (λ z p. z ++ stmt_accesses p (stmt_of s)) e (size ∙ omega arith)
      ∙ sym (ap (accesses 0) (map_step stmt_of ss i s l is) ∙ accesses_push 0 (map stmt_of (take i ss)) (stmt_of s))

-- ---- how much there is

code_length : (A : List ℕ → Extent) (V : Env) (at : ℕ) (e : Expr) → length (code A V at e) ≡ cost e
code_length A V at (Num w) = refl
code_length A V at Turn = refl
code_length A V at (In p) = refl
code_length A V at (Scalar x) = refl
code_length A V at (Item a e) = length-append (code A V at e) _ ∙ ap (λ n. n + 3) (code_length A V at e)
code_length A V at (Two op a b) =
    let l = code_length A V at a in
    let r = code_length A V (at + cost a) b in
    simp length-append (omega arith)
code_length A V at (Three op a b c) =
    let l = code_length A V at a in
    let r = code_length A V (at + cost a) b in
    let q = code_length A V (at + cost a + cost b) c in
    simp length-append (omega arith)

own_length : (A : List ℕ → Extent) (V : Env) (at : ℕ) (e : Expr) → length (own_code A V at e) ≡ own_cost e
own_length A V at (Num w) = refl
own_length A V at Turn = refl
own_length A V at (In p) = refl
own_length A V at (Scalar x) = refl
own_length A V at (Item a e) = code_length A V at (Item a e)
own_length A V at (Two op a b) = code_length A V at (Two op a b)
own_length A V at (Three op a b c) = code_length A V at (Three op a b c)

stmt_length : (A : List ℕ → Extent) (V : Env) (at : ℕ) (s : Stmt) → length (stmt_code A V at s) ≡ stmt_cost s
stmt_length A V at (Bind x e) = own_length A V at e
stmt_length A V at (Assign x e) = own_length A V at e
stmt_length A V at (Put a ix v None) =
    let l = code_length A V at ix in
    let r = code_length A V (at + cost ix) v in
    simp length-append (omega arith)
stmt_length A V at (Put a ix v (Some g)) =
    let l = code_length A V at ix in
    let r = code_length A V (at + cost ix) v in
    let q = code_length A V (at + cost ix + cost v) g in
    simp length-append (omega arith)
stmt_length A V at (Emit p v None) =
    let l = code_length A V at v in
    simp length-append (omega arith)
stmt_length A V at (Emit p v (Some g)) =
    let l = code_length A V at v in
    let r = code_length A V (at + cost v) g in
    simp length-append (omega arith)

body_length : (A : List ℕ → Extent) (V : Env) (at : ℕ) (ss : List Stmt) → length (body_code A V at ss) ≡ body_cost ss
body_length A V at [] = refl
body_length A V at (s ∷ ss) = length-append (stmt_code A V at s) _ ∙ ap₂ (λ m n. m + n) (stmt_length A V at s) (body_length A (stmt_env V at s) (at + stmt_cost s) ss)

pub size_is : (P : Body) → size (loop_kernel_of P) ≡ body_cost P.stmts
size_is P = body_length (extent P.decls) (first_env P) 0 P.stmts

-- ---- the kernel, by what was made of a body

pub order_same : (b : LoopBody) (ds : List Decl) (ss : List WrittenStmt) (us : List Access) (es : List OrderEdge) → es ≡ flat_map (decl_edges us) ds → us ≡ accesses 0 (map stmt_of ss) → ds ≡ b.decls → ss ≡ b.stmts →
    es ≡ (loop_kernel_of (body_of b)).order
order_same b ds ss us es e u d s = e ∙ ap₂ (λ z y. flat_map (decl_edges z) y) (u ∙ ap (λ z. accesses 0 (map stmt_of z)) s) d

pub nodes_same : (b : LoopBody) (ds : List Decl) (ss : List WrittenStmt) (ns : List Node) → ns ≡ (loop_kernel_of (grouped ds ss)).nodes → ds ≡ b.decls → ss ≡ b.stmts → ns ≡ (loop_kernel_of (body_of b)).nodes
nodes_same b ds ss ns n d s = n ∙ ap₂ (λ z y. (loop_kernel_of (grouped z y)).nodes) d s

pub size_same : (b : LoopBody) → size (loop_kernel_of (body_of b)) ≡ body_cost (map stmt_of b.stmts)
size_same b = size_is (body_of b)
