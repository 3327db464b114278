-- Code at a place of a kernel, and how long it is.
use Rattle.std.proofs.Common.{◌≡◌, ℕ, ◌+◌, ◌<◌, List, [], ◌∷◌, ◌++◌, length, Some, None, refl, ap, ◌∙◌, subst, arith, append_assoc, length-append}
use Rattle.std.proofs.lemmas.List.{length_push, get_or_at}
use Rattle.cg_model.specs.declared.kernel.Node.{Node}
use Rattle.cg_model.specs.Kernel.{Kernel, node, no_node, size}
use Rattle.cg_loop_syntax.specs.Loop.{Expr, Num, Turn, In, Scalar, Item, Two, Three, Stmt, Bind, Assign, Put, Emit, Extent}
use Rattle.cg_loop_laws.specs.Translate.{Env, cost, code, own_cost, own_code, stmt_cost, stmt_code, stmt_env, body_cost, body_code}

abbrev pub Stands : Kernel → ℕ → List Node → Type 0
Stands K at [] = Unit {0}
Stands K at (n ∷ ns) = (at < size K) × (node K at ≡ n) × Stands K (at + 1) ns

pub stands_append : (K : Kernel) (at : ℕ) (xs ys : List Node) (n : ℕ) → length xs ≡ n → Stands K at (xs ++ ys) → Stands K at xs × Stands K (at + n) ys
stands_append K at [] ys n e h = (tt, subst (λ z. Stands K z ys) (let f : at ≡ at + n = omega arith in f) h)
stands_append K at (x ∷ xs) ys n e h =
    let r = stands_append K (at + 1) xs ys (length xs) refl h.2 in
    ((h.0, h.1, r.0), subst (λ z. Stands K z ys) (let f : at + 1 + length xs ≡ at + n = omega arith in f) r.1)

pub stands_from : (K : Kernel) (front ns : List Node) → front ++ ns ≡ K.nodes → Stands K (length front) ns
stands_from K front [] e = tt
stands_from K front (n ∷ ns) e = (
  let l = ap length e in omega (arith, length-append front (n ∷ ns)),
  subst (λ xs. node (record { nodes = xs; order = [] }) (length front) ≡ n) e (get_or_at front n ns no_node (length front) refl),
  subst (λ z. Stands K z ns) (length_push front n) (stands_from K (front ++ n ∷ []) ns (append_assoc front (n ∷ []) ns ∙ e)),
)

-- lengths
pub length-code : (A : List ℕ → Extent) (V : Env) (at : ℕ) (e : Expr) → length (code A V at e) ≡ cost e
length-code A V at (Num w) = refl
length-code A V at Turn = refl
length-code A V at (In p) = refl
length-code A V at (Scalar x) = refl
length-code A V at (Item a e) = length-append (code A V at e) _ ∙ omega (arith, length-code A V at e)
length-code A V at (Two op a b) =
    length-append (code A V at a) _ ∙ ap (λ z. length (code A V at a) + z) (length-append (code A V (at + cost a) b) _) ∙ omega (arith, length-code A V at a, length-code A V (at + cost a) b)
length-code A V at (Three op a b c) =
    length-append (code A V at a) _
    ∙ ap (λ z. length (code A V at a) + z) (length-append (code A V (at + cost a) b) _ ∙ ap (λ z. length (code A V (at + cost a) b) + z) (length-append (code A V (at + cost a + cost b) c) _))
    ∙ omega (arith, length-code A V at a, length-code A V (at + cost a) b, length-code A V (at + cost a + cost b) c)

pub length-own_code : (A : List ℕ → Extent) (V : Env) (at : ℕ) (e : Expr) → length (own_code A V at e) ≡ own_cost e
length-own_code A V at (Scalar x) = refl
length-own_code A V at (Num w) = refl
length-own_code A V at Turn = refl
length-own_code A V at (In p) = refl
length-own_code A V at (Item a e) = length-code A V at (Item a e)
length-own_code A V at (Two op a b) = length-code A V at (Two op a b)
length-own_code A V at (Three op a b c) = length-code A V at (Three op a b c)

pub length-stmt_code : (A : List ℕ → Extent) (V : Env) (at : ℕ) (s : Stmt) → length (stmt_code A V at s) ≡ stmt_cost s
length-stmt_code A V at (Bind x e) = length-own_code A V at e
length-stmt_code A V at (Assign x e) = length-own_code A V at e
length-stmt_code A V at (Put a ix v None) =
    length-append (code A V at ix) _ ∙ ap (λ z. length (code A V at ix) + z) (length-append (code A V (at + cost ix) v) _)
    ∙ omega (arith, length-code A V at ix, length-code A V (at + cost ix) v)
length-stmt_code A V at (Put a ix v (Some g)) =
    length-append (code A V at ix) _
    ∙ ap (λ z. length (code A V at ix) + z) (length-append (code A V (at + cost ix) v) _ ∙ ap (λ z. length (code A V (at + cost ix) v) + z) (length-append (code A V (at + cost ix + cost v) g) _))
    ∙ omega (arith, length-code A V at ix, length-code A V (at + cost ix) v, length-code A V (at + cost ix + cost v) g)
length-stmt_code A V at (Emit p v None) = length-append (code A V at v) _ ∙ omega (arith, length-code A V at v)
length-stmt_code A V at (Emit p v (Some g)) =
    length-append (code A V at v) _ ∙ ap (λ z. length (code A V at v) + z) (length-append (code A V (at + cost v) g) _)
    ∙ omega (arith, length-code A V at v, length-code A V (at + cost v) g)

pub length-body_code : (A : List ℕ → Extent) (V : Env) (at : ℕ) (ss : List Stmt) → length (body_code A V at ss) ≡ body_cost ss
length-body_code A V at [] = refl
length-body_code A V at (s ∷ ss) =
    length-append (stmt_code A V at s) _ ∙ omega (arith, length-stmt_code A V at s, length-body_code A (stmt_env V at s) (at + stmt_cost s) ss)
