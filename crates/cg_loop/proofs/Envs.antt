-- What names stand for.
use Rattle.std.proofs.Common.{◌≡◌, ℕ, Bool, true, false, Some, ◌+◌, ◌<◌, List, [], ◌∷◌, ◌++◌, length, get_or, take, map, reverse, refl, sym, ap, ◌∙◌, arith, append_assoc, append-nil}
use Rattle.std.proofs.Math.Path.{fun_ext}
use Rattle.std.proofs.lemmas.List.{map-append, reverse-append}
use Rattle.std.proofs.lemmas.Slice.Eq.{bytes_eq-Decides}
use Rattle.std.specs.Prelude.{bytes_eq, if◌then◌else◌}
use Rattle.cg_model.specs.declared.kernel.Operand.TheVariants.{Edge}
use Rattle.std.specs.List.{flat_map}
use Rattle.cg_loop_syntax.specs.declared.body.Stmt.{Stmt as WrittenStmt}
use Rattle.cg_loop_syntax.specs.Grouped.{stmt_of}
use Rattle.cg_loop_syntax.specs.Loop.{Stmt, Bind, Assign, Put, Emit, Body, carry}
use Rattle.cg_loop_syntax.specs.declared.body.Decl.{Decl}
use Rattle.cg_loop_syntax.specs.declared.body.Decl.TheVariants.{Array, Carry}
use Rattle.cg_loop_laws.specs.Meaning.{updated}
use Rattle.cg_loop_laws.specs.Translate.{Env, stmt_cost, stmt_env, body_cost, body_env, carried, source_of, first_env}
use Rattle.cg_loop.specs.declared.names.Named.{Named}
use Rattle.cg_loop.proofs.Costs.{map_step}
use Rattle.cg_loop.specs.Known.{Known, known_of, carries, decl_known, operand_of, stmt_bindings, bindings, env_from, env_of}

pub env_from_append : (V : Env) (ks ls : List Known) → env_from V (ks ++ ls) ≡ env_from (env_from V ks) ls
env_from_append V [] ls = refl
env_from_append V (k ∷ ks) ls = env_from_append (updated V k.name k.operand) ks ls

-- a name behind one more
pub known_step : (ns : List Named) (i : ℕ) (n : Named) (x : List ℕ) (t : Bool) → i < length ns → n ≡ get_or ns i n → bytes_eq x n.name.now ≡ t →
    env_of (map known_of (take (i + 1) ns)) x ≡ (if t then operand_of n.value else env_of (map known_of (take i ns)) x)
known_step ns i n x t l is q =
    ap (λ z. env_of z x) (map_step known_of ns i n l is)
    ∙ ap (λ W. W x) (env_from_append _ (map known_of (take i ns)) (known_of n ∷ []))
    ∙ ap (λ z. if z then operand_of n.value else env_of (map known_of (take i ns)) x) q

-- what statements bind

pub env_from_stmt : (V : Env) (at : ℕ) (s : Stmt) → env_from V (stmt_bindings at s) ≡ stmt_env V at s
env_from_stmt V at (Bind x e) = refl
env_from_stmt V at (Assign x e) = refl
env_from_stmt V at (Put a ix v g) = refl
env_from_stmt V at (Emit p v g) = refl

pub env_from_body : (V : Env) (at : ℕ) (ss : List Stmt) → env_from V (bindings at ss) ≡ body_env V at ss
env_from_body V at [] = refl
env_from_body V at (s ∷ ss) =
    env_from_append V (stmt_bindings at s) _
    ∙ ap (λ W. env_from W (bindings (at + stmt_cost s) ss)) (env_from_stmt V at s)
    ∙ env_from_body (stmt_env V at s) (at + stmt_cost s) ss

bindings_append : (at : ℕ) (ss ts : List Stmt) → bindings at (ss ++ ts) ≡ bindings at ss ++ bindings (at + body_cost ss) ts
bindings_append at [] ts = ap (λ n. bindings n ts) (omega arith)
bindings_append at (s ∷ ss) ts =
    ap (λ z. stmt_bindings at s ++ z) (bindings_append (at + stmt_cost s) ss ts ∙ ap (λ n. bindings (at + stmt_cost s) ss ++ bindings n ts) (omega arith))
    ∙ sym (append_assoc (stmt_bindings at s) _ _)

pub bindings_step : (ss : List WrittenStmt) (i : ℕ) (s : WrittenStmt) → i < length ss → s ≡ get_or ss i s →
    bindings 0 (map stmt_of (take (i + 1) ss)) ≡ bindings 0 (map stmt_of (take i ss)) ++ stmt_bindings (body_cost (map stmt_of (take i ss))) (stmt_of s)
bindings_step ss i s l is =
    ap (bindings 0) (map_step stmt_of ss i s l is)
    ∙ bindings_append 0 (map stmt_of (take i ss)) (stmt_of s ∷ [])
    ∙ ap (λ z. bindings 0 (map stmt_of (take i ss)) ++ z) (ap (λ n. bindings n (stmt_of s ∷ [])) (omega arith) ∙ append-nil (stmt_bindings _ (stmt_of s)))

-- ---- before the first statement

pub map-reverse : {A B : Type 0} (f : A → B) (xs : List A) → map f (reverse xs) ≡ reverse (map f xs)
map-reverse f [] = refl
map-reverse f (x ∷ xs) = ap (map f) (reverse-append (x ∷ []) xs) ∙ map-append f (reverse xs) (x ∷ []) ∙ ap (λ z. z ++ f x ∷ []) (map-reverse f xs) ∙ sym (reverse-append (f x ∷ []) (map f xs))

-- the first of a name counts in a reversed list
reversed_step : (V : Env) (k : Known) (ks : List Known) → env_from V (reverse (k ∷ ks)) ≡ updated (env_from V (reverse ks)) k.name k.operand
reversed_step V k ks = ap (env_from V) (reverse-append (k ∷ []) ks) ∙ env_from_append V (reverse ks) (k ∷ [])

carried_name : (bs : List Known) (ds : List Decl) (x y : List ℕ) (w : ℕ) (t : Bool) → bytes_eq x y ≡ t → env_of (carries bs ds) x ≡ carried (source_of (env_of bs x)) (carry ds x) →
    (if t then Edge (source_of (env_of bs y)) 1 (w ∷ []) else env_of (carries bs ds) x) ≡ carried (source_of (env_of bs x)) (if t then Some w else carry ds x)
carried_name bs ds x y w true q h = ap (λ z. Edge (source_of (env_of bs z)) 1 (w ∷ [])) (sym ((bytes_eq-Decides x y).0 q))
carried_name bs ds x y w false q h = h

carries_at : (bs : List Known) (ds : List Decl) (x : List ℕ) → env_of (carries bs ds) x ≡ carried (source_of (env_of bs x)) (carry ds x)
carries_at bs [] x = refl
carries_at bs (Array y at len ∷ ds) x = carries_at bs ds x
carries_at bs (Carry y w ∷ ds) x =
    ap (λ W. W x) (reversed_step _ (record { name = y; operand = Edge (source_of (env_of bs y)) 1 (w ∷ []) }) (flat_map (decl_known bs) ds))
    ∙ carried_name bs ds x y w (bytes_eq x y) refl (carries_at bs ds x)

pub carries_first : (P : Body) → env_of (carries (bindings 0 P.stmts) P.decls) ≡ first_env P
carries_first P = fun_ext (λ x. carries_at (bindings 0 P.stmts) P.decls x ∙ ap (λ W. carried (source_of (W x)) (carry P.decls x)) (env_from_body _ 0 P.stmts))

-- behind the first statements
pub env_behind : (P : Body) (ss : List Stmt) → env_of (carries (bindings 0 P.stmts) P.decls ++ bindings 0 ss) ≡ body_env (first_env P) 0 ss
env_behind P ss =
    env_from_append _ (carries (bindings 0 P.stmts) P.decls) (bindings 0 ss)
    ∙ ap (λ V. env_from V (bindings 0 ss)) (carries_first P)
    ∙ env_from_body (first_env P) 0 ss
