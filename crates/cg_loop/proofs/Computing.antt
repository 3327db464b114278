-- How the code of an expression comes from that of its operands.
use Rattle.std.proofs.Common.{◌≡◌, ℕ, ◌+◌, List, [], ◌∷◌, ◌++◌, length, map, sym, ap, ap₂, ◌∙◌, arith, append_assoc, append-nil, length-append, false, true, Option, Some, None, ◌<◌, ◌≤◌, get_or, Result, Ok, Err, IfOk}
use Rattle.std.specs.Option.{option_map}
use Rattle.cg_loop_syntax.specs.declared.syntax.Expr.{Expr as WrittenExpr}
use Rattle.cg_loop_syntax.specs.Grouped.{applied, expr_of}
use Rattle.cg_word.specs.declared.op.Op.{Op}
use Rattle.cg_word.specs.declared.op.Op.TheVariants as ops
use Rattle.cg_model.specs.declared.kernel.Node.{Node}
use Rattle.cg_model.specs.declared.kernel.Operand.TheVariants.{Const as Constant}
use Rattle.cg_loop_syntax.specs.Loop.{Expr, Num, Turn, In, Scalar, Item, Two, Three, Put, extent}
use Rattle.cg_loop_laws.specs.Translate.{here, plain, ported, cost, result, code, reads, item_code, put_code}
use Rattle.cg_loop.specs.declared.scope.Scope.{Scope}
use Rattle.cg_loop.specs.declared.names.Value.{Value}
use Rattle.cg_loop.specs.Known.{env_in, operand_of}
use Rattle.cg_loop.specs.Made.{Made, Computes, Guards, Executes, guard_code, guard_reads, guard_result, store_code, store_cost}
use Rattle.cg_loop.specs.Costs.{guard_cost}

-- nodes behind nodes
joined₂ : {A : Type 0} (s0 s1 s2 a b : List A) → s1 ≡ s0 ++ a → s2 ≡ s1 ++ b → s2 ≡ s0 ++ (a ++ b)
joined₂ s0 s1 s2 a b e f = f ∙ ap (λ z. z ++ b) e ∙ append_assoc s0 a b

joined₃ : {A : Type 0} (s0 s1 s2 s3 a b c : List A) → s1 ≡ s0 ++ a → s2 ≡ s1 ++ b → s3 ≡ s2 ++ c → s3 ≡ s0 ++ (a ++ (b ++ c))
joined₃ s0 s1 s2 s3 a b c e f g = joined₂ s0 s1 s3 a (b ++ c) e (joined₂ s1 s2 s3 b c f g)

length_one : (xs ys : List Node) (n : Node) → ys ≡ xs ++ n ∷ [] → length ys ≡ length xs + 1
length_one xs ys n e = ap length e ∙ length-append xs (n ∷ [])

pub computes_two : (s : Scope) (m0 m1 m2 m3 : Made) (op : Op) (a b : Expr) (x y z : Value) → Computes s m0 m1 a x → Computes s m1 m2 b y →
    operand_of z ≡ here (length m2.nodes) → m3.nodes ≡ m2.nodes ++ plain (length m2.nodes) op (operand_of x ∷ operand_of y ∷ []) ∷ [] → m3.accesses ≡ m2.accesses → Computes s m0 m3 (Two op a b) z
computes_two s m0 m1 m2 m3 op a b x y z f g v n t =
    let at = length m0.nodes in
    let e1 = f.size in
    let e2 : length m2.nodes ≡ at + cost a + cost b = omega arith in
    let A = extent s.decls.now in
    let V = env_in s in
    record {
      nodes =
          joined₃ m0.nodes m1.nodes m2.nodes m3.nodes (code A V at a) (code A V (at + cost a) b) (plain (at + cost a + cost b) op (result V at a ∷ result V (at + cost a) b ∷ []) ∷ [])
          f.nodes
          (g.nodes ∙ ap (λ p. m1.nodes ++ code A V p b) e1)
          (n ∙ ap (λ p. m2.nodes ++ plain p op (operand_of x ∷ operand_of y ∷ []) ∷ []) e2 ∙ ap₂ (λ o q. m2.nodes ++ plain (at + cost a + cost b) op (o ∷ q ∷ []) ∷ []) f.value (g.value ∙ ap (λ p. result V p b) e1));
      accesses = joined₂ m0.accesses m1.accesses m3.accesses (reads at a) (reads (at + cost a) b) f.accesses (t ∙ g.accesses ∙ ap (λ p. m1.accesses ++ reads p b) e1);
      size = let l = length_one m2.nodes m3.nodes _ n in omega arith;
      value = v ∙ ap here e2;
    }

joined₄ : {A : Type 0} (s0 s1 s2 s3 s4 a b c d : List A) → s1 ≡ s0 ++ a → s2 ≡ s1 ++ b → s3 ≡ s2 ++ c → s4 ≡ s3 ++ d → s4 ≡ s0 ++ (a ++ (b ++ (c ++ d)))
joined₄ s0 s1 s2 s3 s4 a b c d e f g h = joined₂ s0 s1 s4 a (b ++ (c ++ d)) e (joined₃ s1 s2 s3 s4 b c d f g h)

pub computes_three : (s : Scope) (m0 m1 m2 m3 m4 : Made) (op : Op) (a b c : Expr) (x y z w : Value) → Computes s m0 m1 a x → Computes s m1 m2 b y → Computes s m2 m3 c z →
    operand_of w ≡ here (length m3.nodes) → m4.nodes ≡ m3.nodes ++ plain (length m3.nodes) op (operand_of x ∷ operand_of y ∷ operand_of z ∷ []) ∷ [] → m4.accesses ≡ m3.accesses → Computes s m0 m4 (Three op a b c) w
computes_three s m0 m1 m2 m3 m4 op a b c x y z w f g h v n t =
    let at = length m0.nodes in
    let e1 = f.size in
    let e2 : length m2.nodes ≡ at + cost a + cost b = omega (arith, g.size) in
    let e3 : length m3.nodes ≡ at + cost a + cost b + cost c = omega (arith, h.size) in
    let A = extent s.decls.now in
    let V = env_in s in
    record {
      nodes =
          joined₄ m0.nodes m1.nodes m2.nodes m3.nodes m4.nodes _ _ _ _
          f.nodes
          (g.nodes ∙ ap (λ p. m1.nodes ++ code A V p b) e1)
          (h.nodes ∙ ap (λ p. m2.nodes ++ code A V p c) e2)
          (
          n
          ∙ ap (λ p. m3.nodes ++ plain p op (operand_of x ∷ operand_of y ∷ operand_of z ∷ []) ∷ []) e3
          ∙ ap₂ (λ o q. m3.nodes ++ plain (at + cost a + cost b + cost c) op (o ∷ q ∷ operand_of z ∷ []) ∷ []) f.value (g.value ∙ ap (λ p. result V p b) e1)
          ∙ ap (λ o. m3.nodes ++ plain (at + cost a + cost b + cost c) op (result V at a ∷ result V (at + cost a) b ∷ o ∷ []) ∷ []) (h.value ∙ ap (λ p. result V p c) e2)
          );
      accesses =
          joined₃ m0.accesses m1.accesses m2.accesses m4.accesses _ _ _
          f.accesses
          (g.accesses ∙ ap (λ p. m1.accesses ++ reads p b) e1)
          (t ∙ h.accesses ∙ ap (λ p. m2.accesses ++ reads p c) e2);
      size = let l = length_one m3.nodes m4.nodes _ n in omega (arith, h.size);
      value = v ∙ ap here e3;
    }

pub computes_item : (s : Scope) (m0 m1 m2 : Made) (a : List ℕ) (e : Expr) (x z : Value) → Computes s m0 m1 e x →
    m2.nodes ≡ m1.nodes ++ item_code (extent s.decls.now a) (length m1.nodes) (operand_of x) →
    m2.accesses ≡ m1.accesses ++ record { node = length m1.nodes + 2; array = a; writes = false } ∷ [] → operand_of z ≡ here (length m1.nodes + 2) → Computes s m0 m2 (Item a e) z
computes_item s m0 m1 m2 a e x z f n t v =
    let at = length m0.nodes in
    let r = extent s.decls.now a in
    record {
      nodes = joined₂ m0.nodes m1.nodes m2.nodes _ _ f.nodes (n ∙ ap₂ (λ p o. m1.nodes ++ item_code r p o) f.size f.value);
      accesses = joined₂ m0.accesses m1.accesses m2.accesses _ _ f.accesses (t ∙ ap (λ p. m1.accesses ++ record { node = p + 2; array = a; writes = false } ∷ []) f.size);
      size = omega (arith, f.size, ap length n ∙ length-append m1.nodes _);
      value = v ∙ ap (λ p. here (p + 2)) f.size;
    }

-- an expression of one node, and that of none
pub computes_num : (s : Scope) (m0 m1 : Made) (w : ℕ) (z : Value) → operand_of z ≡ here (length m0.nodes) → m1.nodes ≡ m0.nodes ++ plain (length m0.nodes) ops.Const (Constant w ∷ []) ∷ [] → m1.accesses ≡ m0.accesses → Computes s m0 m1 (Num w) z
computes_num s m0 m1 w z v n t = record { nodes = n; accesses = t ∙ sym (append-nil m0.accesses); size = length_one m0.nodes m1.nodes _ n; value = v }

pub computes_turn : (s : Scope) (m0 m1 : Made) (z : Value) → operand_of z ≡ here (length m0.nodes) → m1.nodes ≡ m0.nodes ++ plain (length m0.nodes) ops.Iter [] ∷ [] → m1.accesses ≡ m0.accesses → Computes s m0 m1 Turn z
computes_turn s m0 m1 z v n t = record { nodes = n; accesses = t ∙ sym (append-nil m0.accesses); size = length_one m0.nodes m1.nodes _ n; value = v }

pub computes_in : (s : Scope) (m0 m1 : Made) (p : ℕ) (z : Value) → operand_of z ≡ here (length m0.nodes) → m1.nodes ≡ m0.nodes ++ ported (length m0.nodes) ops.Input p [] ∷ [] → m1.accesses ≡ m0.accesses → Computes s m0 m1 (In p) z
computes_in s m0 m1 p z v n t = record { nodes = n; accesses = t ∙ sym (append-nil m0.accesses); size = length_one m0.nodes m1.nodes _ n; value = v }

pub computes_scalar : (s : Scope) (m : Made) (x : List ℕ) (z : Value) → operand_of z ≡ env_in s x → Computes s m m (Scalar x) z
computes_scalar s m x z v = record { nodes = sym (append-nil m.nodes); accesses = sym (append-nil m.accesses); size = omega arith; value = v }

-- what an operation of two or three operands is
pub two_applied : (op : Op) (es : List WrittenExpr) (a b : WrittenExpr) → 2 ≤ length es → length es < 3 → a ≡ get_or es 0 a → b ≡ get_or es 1 b → applied op (map expr_of es) ≡ Two op (expr_of a) (expr_of b)
two_applied op [] a b l m e f = absurd (omega arith)
two_applied op (x ∷ []) a b l m e f = absurd (omega arith)
two_applied op (x ∷ y ∷ []) a b l m e f = ap₂ (λ u v. Two op (expr_of u) (expr_of v)) (sym e) (sym f)
two_applied op (x ∷ y ∷ z ∷ es) a b l m e f = absurd (omega arith)

pub three_applied : (op : Op) (es : List WrittenExpr) (a b c : WrittenExpr) → 3 ≤ length es → length es < 4 → a ≡ get_or es 0 a → b ≡ get_or es 1 b → c ≡ get_or es 2 c →
    applied op (map expr_of es) ≡ Three op (expr_of a) (expr_of b) (expr_of c)
three_applied op [] a b c l m e f g = absurd (omega arith)
three_applied op (x ∷ []) a b c l m e f g = absurd (omega arith)
three_applied op (x ∷ y ∷ []) a b c l m e f g = absurd (omega arith)
three_applied op (x ∷ y ∷ z ∷ []) a b c l m e f g = ap₂ (λ u v. Three op (expr_of u) (expr_of v) (expr_of z)) (sym e) (sym f) ∙ ap (λ w. Three op (expr_of a) (expr_of b) (expr_of w)) (sym g)
three_applied op (x ∷ y ∷ z ∷ w ∷ es) a b c l m e f g = absurd (omega arith)

-- what three clauses of a last call give
pub all_ok : {T E : Type 0} (r : Result T E) (P Q R S : T → Type 0) → ((x : T) → P x → Q x → R x → S x) → IfOk r P → IfOk r Q → IfOk r R → IfOk r S
all_ok (Ok x) P Q R S f p q h = f x p q h
all_ok (Err e) P Q R S f p q h = tt

-- ---- statements

-- a store, by the positions of its parts
put_at : (s : Scope) (m0 m1 m2 m3 m4 : Made) (a : List ℕ) (ix v : Expr) (g : Option Expr) (x y : Value) (z : Option Value) → Computes s m0 m1 ix x → Computes s m1 m2 v y → Guards s m2 m3 g z →
    m4.nodes ≡ m3.nodes ++ store_code (extent s.decls.now a) (length m3.nodes) (operand_of x) (operand_of y) (option_map operand_of z) →
    m4.nodes ≡ m0.nodes ++ (code (extent s.decls.now) (env_in s) (length m0.nodes) ix ++ (code (extent s.decls.now) (env_in s) (length m0.nodes + cost ix) v
    ++ (guard_code (extent s.decls.now) (env_in s) (length m0.nodes + cost ix + cost v) g
    ++ store_code (extent s.decls.now a) (length m0.nodes + cost ix + cost v + guard_cost g) (result (env_in s) (length m0.nodes) ix) (result (env_in s) (length m0.nodes + cost ix) v) (guard_result (env_in s) (length m0.nodes + cost ix + cost v) g))))
put_at s m0 m1 m2 m3 m4 a ix v g x y z f h k n =
    let at = length m0.nodes in
    let e1 = f.size in
    let e2 : length m2.nodes ≡ at + cost ix + cost v = omega (arith, h.size) in
    let e3 : length m3.nodes ≡ at + cost ix + cost v + guard_cost g = omega (arith, k.size) in
    let A = extent s.decls.now in
    let V = env_in s in
    let r = extent s.decls.now a in
    joined₄ m0.nodes m1.nodes m2.nodes m3.nodes m4.nodes _ _ _ _
    f.nodes
    (h.nodes ∙ ap (λ p. m1.nodes ++ code A V p v) e1)
    (k.nodes ∙ ap (λ p. m2.nodes ++ guard_code A V p g) e2)
    (
    n
    ∙ ap (λ p. m3.nodes ++ store_code r p (operand_of x) (operand_of y) (option_map operand_of z)) e3
    ∙ ap₂ (λ o q. m3.nodes ++ store_code r (at + cost ix + cost v + guard_cost g) o q (option_map operand_of z)) f.value (h.value ∙ ap (λ p. result V p v) e1)
    ∙ ap (λ o. m3.nodes ++ store_code r (at + cost ix + cost v + guard_cost g) (result V at ix) (result V (at + cost ix) v) o) (k.value ∙ ap (λ p. guard_result V p g) e2)
    )

put_reads : (s : Scope) (m0 m1 m2 m3 m4 : Made) (a : List ℕ) (ix v : Expr) (g : Option Expr) (x y : Value) (z : Option Value) → Computes s m0 m1 ix x → Computes s m1 m2 v y → Guards s m2 m3 g z →
    (n : ℕ) → m4.accesses ≡ m3.accesses ++ record { node = n; array = a; writes = true } ∷ [] →
    m4.accesses ≡ m0.accesses ++ (reads (length m0.nodes) ix ++ (reads (length m0.nodes + cost ix) v ++ (guard_reads (length m0.nodes + cost ix + cost v) g ++ record { node = n; array = a; writes = true } ∷ [])))
put_reads s m0 m1 m2 m3 m4 a ix v g x y z f h k n t =
    let at = length m0.nodes in
    let e2 : length m2.nodes ≡ at + cost ix + cost v = omega (arith, f.size, h.size) in
    joined₄ m0.accesses m1.accesses m2.accesses m3.accesses m4.accesses _ _ _ _
    f.accesses
    (h.accesses ∙ ap (λ p. m1.accesses ++ reads p v) f.size)
    (k.accesses ∙ ap (λ p. m2.accesses ++ guard_reads p g) e2)
    t

pub executes_put : (s : Scope) (m0 m1 m2 m3 m4 : Made) (a : List ℕ) (ix v : Expr) (g : Option Expr) (x y : Value) (z : Option Value) → Computes s m0 m1 ix x → Computes s m1 m2 v y → Guards s m2 m3 g z →
    m4.nodes ≡ m3.nodes ++ store_code (extent s.decls.now a) (length m3.nodes) (operand_of x) (operand_of y) (option_map operand_of z) →
    ((n : ℕ) → n + 1 ≡ length m3.nodes + store_cost z → m4.accesses ≡ m3.accesses ++ record { node = n; array = a; writes = true } ∷ []) → Executes s m0 m4 (Put a ix v g)
executes_put s m0 m1 m2 m3 m4 a ix v None x y None f h k n t =
    let at = length m0.nodes in
    let e3 : length m3.nodes ≡ at + cost ix + cost v = omega (arith, f.size, h.size, k.size) in
    record {
      nodes = put_at s m0 m1 m2 m3 m4 a ix v None x y None f h k n ∙ ap (λ p. m0.nodes ++ (code (extent s.decls.now) (env_in s) at ix ++ (code (extent s.decls.now) (env_in s) (at + cost ix) v ++ put_code (extent s.decls.now a) p (result (env_in s) at ix) (result (env_in s) (at + cost ix) v)))) (omega arith);
      accesses = put_reads s m0 m1 m2 m3 m4 a ix v None x y None f h k (at + cost ix + cost v + 2) (t (at + cost ix + cost v + 2) (omega arith));
      size = omega (arith, ap length n ∙ length-append m3.nodes _);
    }
executes_put s m0 m1 m2 m3 m4 a ix v (Some g) x y (Some z) f h k n t =
    let at = length m0.nodes in
    let e3 : length m3.nodes ≡ at + cost ix + cost v + cost g = omega (arith, f.size, h.size, k.size) in
    record {
      nodes = put_at s m0 m1 m2 m3 m4 a ix v (Some g) x y (Some z) f h k n;
      accesses = put_reads s m0 m1 m2 m3 m4 a ix v (Some g) x y (Some z) f h k (at + cost ix + cost v + cost g + 4) (t (at + cost ix + cost v + cost g + 4) (omega arith));
      size = omega (arith, ap length n ∙ length-append m3.nodes _);
    }
executes_put s m0 m1 m2 m3 m4 a ix v None x y (Some z) f h k n t = let e = k.value in cc
executes_put s m0 m1 m2 m3 m4 a ix v (Some g) x y None f h k n t = let e = k.value in cc
