-- Each node of a loop's kernel is named by its number.
use Rattle.std.proofs.Common.{◌≡◌, ℕ, zero, suc, ◌+◌, ◌%◌, ◌<◌, ◌≤◌, ◌^◌, ◌&&◌, List, [], ◌∷◌, ◌++◌, length, Some, None, true, refl, sym, ap, ap₂, ◌∙◌, subst, arith}
use Rattle.std.specs.Prelude.{decimal, slice_index_or}
use Rattle.std.specs.List.{list_all}
use Rattle.std.proofs.lemmas.Bool.{and_from, or_right, lt-ltb, le-leb}
use Rattle.std.proofs.lemmas.Fmt.{decimal_by_steps, decimal_injective, length-decimal-le}
use Rattle.std.proofs.lemmas.List.Folds.{list_all-append}
use Rattle.cg_model.specs.declared.kernel.Node.{Node}
use Rattle.cg_model.specs.Kernel.{IsNamed, no_node, node, size}
use Rattle.cg_model.specs.Limits.{longest_node_name, most_nodes}
use Rattle.cg_model.specs.Names.{IsName, begins_name, within_name}
use Rattle.cg_model.proofs.Identifiers.{is_name-IsName}
use Rattle.cg_loop_syntax.specs.Loop.{Expr, Num, Turn, In, Scalar, Item, Two, Three, Stmt, Bind, Assign, Put, Emit, Extent, Body, extent}
use Rattle.cg_loop_laws.specs.Translate.{Env, node_name, cost, code, own_code, stmt_cost, stmt_env, stmt_code, body_code, first_env, loop_kernel_of}
use Rattle.cg_loop_laws.proofs.Stands.{length-code, length-stmt_code}

-- nodes that stand from `at` on are named so
abbrev AreNumbered : ℕ → List Node → Type 0
AreNumbered at [] = Unit {0}
AreNumbered at (n ∷ ns) = (n.name ≡ node_name at) × AreNumbered (at + 1) ns

numbered_append : (at n : ℕ) (xs ys : List Node) → length xs ≡ n → AreNumbered at xs → AreNumbered (at + n) ys → AreNumbered at (xs ++ ys)
numbered_append at n [] ys e h k = subst (λ z. AreNumbered z ys) (let f : at + n ≡ at = omega arith in f) k
numbered_append at n (x ∷ xs) ys e h k =
    (h.0, numbered_append (at + 1) (length xs) xs ys refl h.1 (subst (λ z. AreNumbered z ys) (let f : at + n ≡ at + 1 + length xs = omega arith in f) k))

numbered_at : (at v : ℕ) (ns : List Node) → v < length ns → AreNumbered at ns → (slice_index_or ns v no_node).name ≡ node_name (at + v)
numbered_at at v [] l h = absurd (omega arith)
numbered_at at zero (n ∷ ns) l h = h.0 ∙ ap node_name (let f : at ≡ at + 0 = omega arith in f)
numbered_at at (suc v) (n ∷ ns) l h = numbered_at (at + 1) v ns (omega arith) h.1 ∙ ap node_name (let f : at + 1 + v ≡ at + suc v = omega arith in f)

-- the third node and those behind it
third : (p : ℕ) → node_name (p + 2) ≡ node_name (p + 1 + 1)
third p = ap node_name (let f : p + 2 ≡ p + 1 + 1 = omega arith in f)

fourth : (p : ℕ) → node_name (p + 3) ≡ node_name (p + 1 + 1 + 1)
fourth p = ap node_name (let f : p + 3 ≡ p + 1 + 1 + 1 = omega arith in f)

fifth : (p : ℕ) → node_name (p + 4) ≡ node_name (p + 1 + 1 + 1 + 1)
fifth p = ap node_name (let f : p + 4 ≡ p + 1 + 1 + 1 + 1 = omega arith in f)

module _ (A : List ℕ → Extent) (V : Env) where
  code_numbered : (at : ℕ) (e : Expr) → AreNumbered at (code A V at e)
  code_numbered at (Num w) = (refl, tt)
  code_numbered at Turn = (refl, tt)
  code_numbered at (In p) = (refl, tt)
  code_numbered at (Scalar x) = tt
  code_numbered at (Item a e) = numbered_append at (cost e) (code A V at e) _ (length-code A V at e) (code_numbered at e) (refl, (refl, (third (at + cost e), tt)))
  code_numbered at (Two op a b) =
      numbered_append at (cost a) (code A V at a) _ (length-code A V at a) (code_numbered at a)
      (numbered_append (at + cost a) (cost b) (code A V (at + cost a) b) _ (length-code A V (at + cost a) b) (code_numbered (at + cost a) b) (refl, tt))
  code_numbered at (Three op a b c) =
      numbered_append at (cost a) (code A V at a) _ (length-code A V at a) (code_numbered at a)
      (numbered_append (at + cost a) (cost b) (code A V (at + cost a) b) _ (length-code A V (at + cost a) b) (code_numbered (at + cost a) b)
      (numbered_append (at + cost a + cost b) (cost c) (code A V (at + cost a + cost b) c) _ (length-code A V (at + cost a + cost b) c) (code_numbered (at + cost a + cost b) c) (refl, tt)))

  own_numbered : (at : ℕ) (e : Expr) → AreNumbered at (own_code A V at e)
  own_numbered at (Scalar x) = (refl, tt)
  own_numbered at (Num w) = (refl, tt)
  own_numbered at Turn = (refl, tt)
  own_numbered at (In p) = (refl, tt)
  own_numbered at (Item a e) = code_numbered at (Item a e)
  own_numbered at (Two op a b) = code_numbered at (Two op a b)
  own_numbered at (Three op a b c) = code_numbered at (Three op a b c)

  stmt_numbered : (at : ℕ) (s : Stmt) → AreNumbered at (stmt_code A V at s)
  stmt_numbered at (Bind x e) = own_numbered at e
  stmt_numbered at (Assign x e) = own_numbered at e
  stmt_numbered at (Put a ix v None) =
      numbered_append at (cost ix) (code A V at ix) _ (length-code A V at ix) (code_numbered at ix)
      (numbered_append (at + cost ix) (cost v) (code A V (at + cost ix) v) _ (length-code A V (at + cost ix) v) (code_numbered (at + cost ix) v) (refl, (refl, (third (at + cost ix + cost v), tt))))
  stmt_numbered at (Put a ix v (Some g)) =
      numbered_append at (cost ix) (code A V at ix) _ (length-code A V at ix) (code_numbered at ix)
      (numbered_append (at + cost ix) (cost v) (code A V (at + cost ix) v) _ (length-code A V (at + cost ix) v) (code_numbered (at + cost ix) v)
      (numbered_append (at + cost ix + cost v) (cost g) (code A V (at + cost ix + cost v) g) _ (length-code A V (at + cost ix + cost v) g) (code_numbered (at + cost ix + cost v) g)
      (refl, (refl, (third (at + cost ix + cost v + cost g), (fourth (at + cost ix + cost v + cost g), (fifth (at + cost ix + cost v + cost g), tt)))))))
  stmt_numbered at (Emit p v None) = numbered_append at (cost v) (code A V at v) _ (length-code A V at v) (code_numbered at v) (refl, tt)
  stmt_numbered at (Emit p v (Some g)) =
      numbered_append at (cost v) (code A V at v) _ (length-code A V at v) (code_numbered at v)
      (numbered_append (at + cost v) (cost g) (code A V (at + cost v) g) _ (length-code A V (at + cost v) g) (code_numbered (at + cost v) g) (refl, tt))

body_numbered : (A : List ℕ → Extent) (V : Env) (at : ℕ) (ss : List Stmt) → AreNumbered at (body_code A V at ss)
body_numbered A V at [] = tt
body_numbered A V at (s ∷ ss) =
    numbered_append at (stmt_cost s) (stmt_code A V at s) _ (length-stmt_code A V at s) (stmt_numbered A V at s) (body_numbered A (stmt_env V at s) (at + stmt_cost s) ss)

-- ---- such a name is a name, and no other number's

digit_within : (d : ℕ) → d < 10 → within_name (48 + d) ≡ true
digit_within d l = or_right (begins_name (48 + d)) _ (and_from _ _ (le-leb 48 (48 + d) (omega arith)) (le-leb (48 + d) 57 (omega arith)))

abbrev IsSpelled : ℕ → List ℕ → Type 0
IsSpelled n ds = list_all within_name ds ≡ true

decimal_within : (n : ℕ) → n < 2 ^ 64 → list_all within_name (decimal n) ≡ true
decimal_within n l =
    decimal_by_steps IsSpelled (λ d h. ap (λ b. b && true) (digit_within d h))
    (λ m ds h e. list_all-append within_name ds ((48 + m % 10) ∷ []) ∙ ap₂ (λ a b. a && (b && true)) e (digit_within (m % 10) (omega arith)))
    n l

named_well : (v : ℕ) → v < 1024 → IsName longest_node_name (node_name v)
named_well v l =
    let few = length-decimal-le 4 v (omega arith) (omega arith) (omega arith) in
    is_name-IsName longest_node_name (node_name v)
    (and_from _ _ (and_from _ _ (lt-ltb 0 (length (node_name v)) (omega arith)) (ap (λ b. true && (true && b)) (decimal_within v (omega arith)))) (le-leb (length (node_name v)) longest_node_name (omega arith)))

named_apart : (v w : ℕ) → v < 1024 → w < 1024 → node_name v ≡ node_name w → v ≡ w
named_apart v w l m e = decimal_injective v w (omega arith) (omega arith) (let d : decimal v ≡ decimal w = cc in d)

pub named : (P : Body) → size (loop_kernel_of P) ≤ most_nodes → IsNamed (loop_kernel_of P)
named P few =
    record {
      names = λ v l. subst (IsName longest_node_name) (sym (number v l)) (named_well v (omega arith));
      apart = λ v w l m e. named_apart v w (omega arith) (omega arith) (sym (number v l) ∙ e ∙ number w m);
    }
  where
    number : (v : ℕ) → v < size (loop_kernel_of P) → (node (loop_kernel_of P) v).name ≡ node_name v
    number v l = numbered_at 0 v (loop_kernel_of P).nodes l (body_numbered (extent P.decls) (first_env P) 0 P.stmts) ∙ ap node_name (let f : 0 + v ≡ v = omega arith in f)
