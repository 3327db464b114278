-- The nodes of a loop's kernel have the operands and ports of their operations, and at most one constant.
use Rattle.std.proofs.Common.{◌≡◌, ℕ, zero, suc, ◌+◌, ◌<◌, ◌≤◌, List, [], ◌∷◌, ◌++◌, length, Option, Some, None, Bool, true, false, refl, sym, ap, ◌∙◌, arith, ⊎_elim}
use Rattle.std.specs.Prelude.{bytes_eq, slice_get, slice_index_or}
use Rattle.std.proofs.lemmas.Bool.{cases_Bool, cond-true, cond-false, cond_both}
use Rattle.cg_word.specs.declared.op.Op.{Op}
use Rattle.cg_word.specs.declared.op.Op.TheVariants as ops
use Rattle.cg_word.specs.Word.{arity, has_port}
use Rattle.cg_model.specs.Limits.{last_port}
use Rattle.cg_model.specs.declared.kernel.Operand.{Operand}
use Rattle.cg_model.specs.declared.kernel.Operand.TheVariants.{Const as Constant, Edge}
use Rattle.cg_model.specs.declared.kernel.Node.{Node}
use Rattle.cg_model.specs.Kernel.{no_node}
use Rattle.cg_loop_syntax.specs.Loop.{Expr, Num, Turn, In, Scalar, Item, Two, Three, Stmt, Bind, Assign, Put, Emit, Extent}
use Rattle.cg_loop_laws.specs.Meaning.{updated}
use Rattle.cg_loop_laws.specs.Translate.{Env, here, plain, ported, cost, result, code, own_node, own_code, stmt_cost, stmt_env, stmt_code, body_code, carried}
use Rattle.cg_loop_laws.proofs.Sound.{IsExpr, IsStmt, AreStmts, IsScoped, IsScopedStmt, known_after, AreScoped, is_carry}

-- how many constants
abbrev pub constant_in : Operand → ℕ
constant_in (Constant c) = 1
constant_in (Edge u d init) = 0

abbrev pub constants_in : List Operand → ℕ
constants_in [] = 0
constants_in (o ∷ os) = constant_in o + constants_in os

a_constant : (os : List Operand) (p a : ℕ) → slice_get os p ≡ Some (Constant a) → 0 < constants_in os
a_constant [] p a e = absurd (cc)
a_constant (o ∷ os) zero a e = let z : o ≡ Constant a = cc in let y = ap constant_in z in omega arith
a_constant (o ∷ os) (suc p) a e = let r = a_constant os p a e in omega arith

pub one_constant_of : (os : List Operand) (p q a b : ℕ) → constants_in os ≤ 1 → slice_get os p ≡ Some (Constant a) → slice_get os q ≡ Some (Constant b) → p ≡ q
one_constant_of [] p q a b l e f = absurd (cc)
one_constant_of (o ∷ os) zero zero a b l e f = refl
one_constant_of (o ∷ os) zero (suc q) a b l e f = absurd (let z : o ≡ Constant a = cc in let y = ap constant_in z in let r = a_constant os q b f in omega arith)
one_constant_of (o ∷ os) (suc p) zero a b l e f = absurd (let z : o ≡ Constant b = cc in let y = ap constant_in z in let r = a_constant os p a e in omega arith)
one_constant_of (o ∷ os) (suc p) (suc q) a b l e f = ap suc (one_constant_of os p q a b (omega arith) e f)

-- a node that keeps the rules
pub record IsNode (n : Node) : Type 0 where
  pub operands : length n.operands ≡ arity n.op
  pub constants : constants_in n.operands ≤ 1
  pub port : n.port ≤ last_port
  pub no_port : has_port n.op ≡ false → n.port ≡ 0

abbrev pub AreNodes : List Node → Type 0
AreNodes [] = Unit {0}
AreNodes (n ∷ ns) = IsNode n × AreNodes ns

nodes_append : (xs ys : List Node) → AreNodes xs → AreNodes ys → AreNodes (xs ++ ys)
nodes_append [] ys h k = k
nodes_append (x ∷ xs) ys h k = (h.0, nodes_append xs ys h.1 k)

pub nodes_at : (ns : List Node) (v : ℕ) → v < length ns → AreNodes ns → IsNode (slice_index_or ns v no_node)
nodes_at [] v l h = absurd (omega arith)
nodes_at (n ∷ ns) zero l h = h.0
nodes_at (n ∷ ns) (suc v) l h = nodes_at ns v (omega arith) h.1

plain_node : (at : ℕ) (op : Op) (os : List Operand) → length os ≡ arity op → constants_in os ≤ 1 → IsNode (plain at op os)
plain_node at op os e l = record { operands = e; constants = l; port = omega arith; no_port = λ z. refl }

ported_node : (at : ℕ) (op : Op) (port : ℕ) (os : List Operand) → has_port op ≡ true → port ≤ last_port → length os ≡ arity op → constants_in os ≤ 1 → IsNode (ported at op port os)
ported_node at op port os t p e l = record { operands = e; constants = l; port = p; no_port = λ z. absurd (let y = sym t ∙ z in cc) }

-- known names are no constants
abbrev pub IsKnown : (List ℕ → Bool) → Env → Type 0
IsKnown N V = (x : List ℕ) → N x ≡ true → constant_in (V x) ≡ 0

result_edge : (N : List ℕ → Bool) (V : Env) (at : ℕ) (e : Expr) → IsKnown N V → IsScoped N e → constant_in (result V at e) ≡ 0
result_edge N V at (Scalar x) k s = k x s
result_edge N V at (Num w) k s = refl
result_edge N V at Turn k s = refl
result_edge N V at (In p) k s = refl
result_edge N V at (Item a e) k s = refl
result_edge N V at (Two op a b) k s = refl
result_edge N V at (Three op a b c) k s = refl

module _ (A : List ℕ → Extent) (N : List ℕ → Bool) (V : Env) (k : IsKnown N V) where
  code_nodes : (at : ℕ) (e : Expr) → IsExpr e → IsScoped N e → AreNodes (code A V at e)
  code_nodes at (Num w) h s = (plain_node at ops.Const _ refl (omega arith), tt)
  code_nodes at Turn h s = (plain_node at ops.Iter _ refl (omega arith), tt)
  code_nodes at (In p) h s = (ported_node at ops.Input p _ refl h refl (omega arith), tt)
  code_nodes at (Scalar x) h s = tt
  code_nodes at (Item a e) h s =
      let r = result_edge N V at e k s in
      nodes_append (code A V at e) _ (code_nodes at e h s) (plain_node _ ops.Ltu _ refl (omega arith), (plain_node _ ops.Add _ refl (omega arith), (plain_node _ ops.LoadIf _ refl (omega arith), tt)))
  code_nodes at (Two op a b) h s =
      let ra = result_edge N V at a k s.1 in
      let rb = result_edge N V (at + cost a) b k s.2 in
      nodes_append (code A V at a) _ (code_nodes at a h.1 s.1) (nodes_append (code A V (at + cost a) b) _ (code_nodes (at + cost a) b h.2 s.2) (plain_node _ op _ (sym s.0) (omega arith), tt))
  code_nodes at (Three op a b c) h s =
      let ra = result_edge N V at a k s.1 in
      let rb = result_edge N V (at + cost a) b k s.2 in
      let rc = result_edge N V (at + cost a + cost b) c k s.3 in
      nodes_append (code A V at a) _ (code_nodes at a h.1 s.1)
      (nodes_append (code A V (at + cost a) b) _ (code_nodes (at + cost a) b h.2 s.2)
      (nodes_append (code A V (at + cost a + cost b) c) _ (code_nodes (at + cost a + cost b) c h.3 s.3) (plain_node _ op _ (sym s.0) (omega arith), tt)))

  own_nodes : (at : ℕ) (e : Expr) → IsExpr e → IsScoped N e → AreNodes (own_code A V at e)
  own_nodes at (Scalar x) h s = let r = k x s in (plain_node at ops.Const _ refl (omega arith), tt)
  own_nodes at (Num w) h s = code_nodes at (Num w) h s
  own_nodes at Turn h s = code_nodes at Turn h s
  own_nodes at (In p) h s = code_nodes at (In p) h s
  own_nodes at (Item a e) h s = code_nodes at (Item a e) h s
  own_nodes at (Two op a b) h s = code_nodes at (Two op a b) h s
  own_nodes at (Three op a b c) h s = code_nodes at (Three op a b c) h s

  stmt_nodes : (at : ℕ) (st : Stmt) → IsStmt st → IsScopedStmt N st → AreNodes (stmt_code A V at st)
  stmt_nodes at (Bind x e) h s = own_nodes at e h s
  stmt_nodes at (Assign x e) h s = own_nodes at e h s
  stmt_nodes at (Put a ix v None) h s =
      let ri = result_edge N V at ix k s.0 in
      let rv = result_edge N V (at + cost ix) v k s.1 in
      nodes_append (code A V at ix) _ (code_nodes at ix h.0 s.0)
      (nodes_append (code A V (at + cost ix) v) _ (code_nodes (at + cost ix) v h.1 s.1) (plain_node _ ops.Ltu _ refl (omega arith), (plain_node _ ops.Add _ refl (omega arith), (plain_node _ ops.StoreIf _ refl (omega arith), tt))))
  stmt_nodes at (Put a ix v (Some g)) h s =
      let ri = result_edge N V at ix k s.0 in
      let rv = result_edge N V (at + cost ix) v k s.1 in
      let rg = result_edge N V (at + cost ix + cost v) g k s.2 in
      nodes_append (code A V at ix) _ (code_nodes at ix h.0 s.0)
      (nodes_append (code A V (at + cost ix) v) _ (code_nodes (at + cost ix) v h.1 s.1)
      (nodes_append (code A V (at + cost ix + cost v) g) _ (code_nodes (at + cost ix + cost v) g h.2 s.2) (
        plain_node _ ops.Ltu _ refl (omega arith),
        (
          plain_node _ ops.Add _ refl (omega arith),
          (plain_node _ ops.Ne _ refl (omega arith), (plain_node _ ops.And _ refl (omega arith), (plain_node _ ops.StoreIf _ refl (omega arith), tt))),
        ),
      )))
  stmt_nodes at (Emit p v None) h s =
      let rv = result_edge N V at v k s.0 in nodes_append (code A V at v) _ (code_nodes at v h.1 s.0) (ported_node _ ops.Output p _ refl h.0 refl (omega arith), tt)
  stmt_nodes at (Emit p v (Some g)) h s =
      let rv = result_edge N V at v k s.0 in
      let rg = result_edge N V (at + cost v) g k s.1 in
      nodes_append (code A V at v) _ (code_nodes at v h.1 s.0) (nodes_append (code A V (at + cost v) g) _ (code_nodes (at + cost v) g h.2 s.1) (ported_node _ ops.OutputIf p _ refl h.0 refl (omega arith), tt))

known_on : (N : List ℕ → Bool) (V : Env) (x : List ℕ) (u : ℕ) → IsKnown N V → IsKnown N (updated V x (here u))
known_on N V x u k y h = cond_both (bytes_eq y x) (here u) (V y) (λ o. constant_in o ≡ 0) (λ t. refl) (λ t. k y h)

known_more : (N : List ℕ → Bool) (V : Env) (x : List ℕ) (u : ℕ) → IsKnown N V → IsKnown (updated N x true) (updated V x (here u))
known_more N V x u k y h =
    ⊎_elim (λ t. ap constant_in (cond-true (bytes_eq y x) (here u) (V y) t))
    (λ t. ap constant_in (cond-false (bytes_eq y x) (here u) (V y) t) ∙ k y (sym (cond-false (bytes_eq y x) true (N y) t) ∙ h)) (cases_Bool (bytes_eq y x))

known_stmt : (N : List ℕ → Bool) (V : Env) (at : ℕ) (s : Stmt) → IsKnown N V → IsKnown (known_after N s) (stmt_env V at s)
known_stmt N V at (Bind x e) k = known_more N V x (own_node at e) k
known_stmt N V at (Assign x e) k = known_on N V x (own_node at e) k
known_stmt N V at (Put a ix v g) k = k
known_stmt N V at (Emit p v g) k = k

pub body_nodes : (A : List ℕ → Extent) (N : List ℕ → Bool) (V : Env) (at : ℕ) (ss : List Stmt) → IsKnown N V → AreStmts ss → AreScoped N ss → AreNodes (body_code A V at ss)
body_nodes A N V at [] k h s = tt
body_nodes A N V at (st ∷ ss) k h s =
    nodes_append (stmt_code A V at st) _ (stmt_nodes A N V k at st h.0 s.0) (body_nodes A (known_after N st) (stmt_env V at st) (at + stmt_cost st) ss (known_stmt N V at st k) h.1 s.1)

pub carried_known : (u : ℕ) (o : Option ℕ) → is_carry o ≡ true → constant_in (carried u o) ≡ 0
carried_known u None h = absurd (cc)
carried_known u (Some w) h = refl
