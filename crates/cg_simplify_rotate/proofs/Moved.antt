-- A kernel of which node u is moved to just before node v, the only one that uses it, leaves the same.
use Rattle.std.proofs.Common.{◌≡◌, ℕ, zero, suc, ◌+◌, ◌-◌, ◌*◌, ◌<◌, ◌≤◌, true, false, List, [], ◌∷◌, length, map, Some, None, refl, sym, ap, ◌∙◌, subst, arith, cond, ltb}
use Rattle.std.specs.Prelude.{◌⊎◌, slice_get, slice_index}
use Rattle.std.proofs.lemmas.Bool.{true≢false}
use Rattle.cg_word.specs.Word.{arity, has_port, has_value, is_access, is_store, is_output}
use Rattle.cg_model.specs.declared.kernel.Node.{Node}
use Rattle.cg_model.specs.declared.kernel.Operand.{Operand}
use Rattle.cg_model.specs.declared.kernel.Operand.TheVariants.{Const as Constant, Edge}
use Rattle.cg_model.specs.declared.kernel.OrderEdge.{OrderEdge}
use Rattle.cg_model.specs.Limits.{longest_node_name, last_port, most_nodes}
use Rattle.cg_model.specs.Names.{IsName}
use Rattle.cg_model.specs.Kernel.{Kernel, IsKernel, IsWired, IsOrder, IsNamed, HasOperand, node, size}
use Rattle.cg_model.specs.Work.{Image, Work, Reaches}
use Rattle.cg_model.specs.Turns.{operand, work, work_of, val}
use Rattle.cg_model.proofs.Elements.{map_get, map_same}
use Rattle.cg_overlap.proofs.Sequence.{work_is}
use Rattle.cg_simplify_draft.specs.Follows.{Follows, RunsAlike}
use Rattle.cg_simplify_draft.specs.Rewritten.{LeavesAlike, IsRewritten}
use Rattle.cg_simplify_draft.proofs.Stands.{same_stands}
use Rattle.cg_simplify_draft.proofs.Turns.{runs_alike}
use Rattle.cg_simplify_draft.proofs.Drafts.{none_ordered}
use Rattle.cg_simplify_rotate.specs.Moving.{moved, moved_node, number_of, place_from}
use Rattle.cg_simplify_rotate.specs.Turning.{IsOnlyUse}
use Rattle.cg_simplify_rotate.proofs.Places.{back, there, from_inside, number_inside, rises, forward, from_last, from_above, number_at, number_above}

mapped_length : {X Y : Type 0} (f : X → Y) (xs : List X) → length (map f xs) ≡ length xs
mapped_length f [] = refl
mapped_length f (x ∷ xs) = ap suc (mapped_length f xs)

mapped_twice : {X Y Z : Type 0} (f : Y → Z) (g : X → Y) (xs : List X) → map f (map g xs) ≡ map (λ x. f (g x)) xs
mapped_twice f g [] = refl
mapped_twice f g (x ∷ xs) = ap (λ zs. f (g x) ∷ zs) (mapped_twice f g xs)

mapped_get : {X Y : Type 0} (f : X → Y) (xs : List X) (i : ℕ) (x : X) → slice_get xs i ≡ Some x → slice_get (map f xs) i ≡ Some (f x)
mapped_get f [] i x e = let bad : None ≡ Some x = e in absurd (cc)
mapped_get f (y ∷ xs) zero x e = let same : y ≡ x = cc in ap (λ z. Some (f z)) same
mapped_get f (y ∷ xs) (suc i) x e = mapped_get f xs i x e

edge_from : (a b : ℕ) (q : Operand) (u d : ℕ) (init : List ℕ) → moved a b q ≡ Edge u d init → (s : ℕ) × (q ≡ Edge s d init) × (number_of a b s ≡ u)
edge_from a b (Constant w) u d init e = let bad : Constant w ≡ Edge u d init = e in absurd (cc)
edge_from a b (Edge s x j) u d init e = let same : Edge (number_of a b s) x j ≡ Edge u d init = e in (s, cc, cc)

constant_from : (a b : ℕ) (q : Operand) (c : ℕ) → moved a b q ≡ Constant c → q ≡ Constant c
constant_from a b (Constant w) c e = e
constant_from a b (Edge s x j) c e = let bad : Edge (number_of a b s) x j ≡ Constant c = e in absurd (cc)

-- L is K, but that node u, which is no access, and which node v alone uses, is moved to just before node v
pub record IsMoved (K L : Kernel) (u v i : ℕ) : Type 0 where
  pub good : IsKernel K
  pub less : u < v
  pub known : v < size K
  pub sized : size L ≡ size K
  pub nodes : (k : ℕ) → k < size K → node L k ≡ moved_node u v (node K (place_from u v k))
  pub none : L.order ≡ []
  pub plain : is_access (node K u).op ≡ false
  pub only : IsOnlyUse K u v i

module _ (K L : Kernel) (u v i : ℕ) (m : IsMoved K L u v i) where
  abbrev from : ℕ → ℕ
  from k = place_from u v k

  abbrev number : ℕ → ℕ
  number w = number_of u v w

  low : (k : ℕ) → k < size L → k < size K
  low k l = omega (arith, l, m.sized)

  node_is : (k : ℕ) → k < size L → node L k ≡ moved_node u v (node K (place_from u v k))
  node_is k l = m.nodes k (low k l)

  inside : (k : ℕ) → k < size L → place_from u v k < size K
  inside k l = from_inside u v m.less (size K) k m.known (low k l)

  high : (w : ℕ) → w < size K → number_of u v w < size L
  high w l = let x = number_inside u v m.less (size K) w m.known l in omega (arith, m.sized)

  apart : (j k : ℕ) → place_from u v j ≡ place_from u v k → j ≡ k
  apart j k e = sym (there u v m.less j) ∙ ap (λ w. number_of u v w) e ∙ there u v m.less k

  -- ---- operands

  operand_from : (k p : ℕ) (o : Operand) → k < size L → HasOperand L k p o → (q : Operand) × (HasOperand K (place_from u v k) p q) × (moved u v q ≡ o)
  operand_from k p o l has =
      let g = map_get (moved u v) (node K (from k)).operands p o (subst (λ (N : Node). slice_get N.operands p ≡ Some o) (node_is k l) has) in
      (g.0, g.1.0, g.1.1)

  edge_at : (k p s d : ℕ) (init : List ℕ) → k < size L → HasOperand L k p (Edge s d init) → (w : ℕ) × (HasOperand K (place_from u v k) p (Edge w d init)) × (number_of u v w ≡ s)
  edge_at k p s d init l has =
      let q = operand_from k p (Edge s d init) l has in
      let e = edge_from u v q.0 s d init q.2 in
      (e.0, subst (λ (o : Operand). HasOperand K (from k) p o) e.1 q.1, e.2)

  constant_at : (k p c : ℕ) → k < size L → HasOperand L k p (Constant c) → HasOperand K (place_from u v k) p (Constant c)
  constant_at k p c l has =
      let q = operand_from k p (Constant c) l has in
      subst (λ (o : Operand). HasOperand K (from k) p o) (constant_from u v q.0 c q.2) q.1

  source_known : (k p w d : ℕ) (init : List ℕ) → k < size L → HasOperand K (place_from u v k) p (Edge w d init) → w < size K
  source_known k p w d init l has = m.good.wired.sources (from k) p w d init (inside k l) has

  -- ---- the kernel is valid

  moved_forward : (k p s : ℕ) (init : List ℕ) → k < size L → HasOperand L k p (Edge s 0 init) → s < k
  moved_forward k p s init l has =
      let e = edge_at k p s 0 init l has in
      let b = m.good.wired.forward (from k) p e.0 init (inside k l) e.1 in
      let far : e.0 ≡ u → v ≤ from k = λ z.
      let h = (m.only (from k) p 0 init (inside k l) (subst (λ (w : ℕ). HasOperand K (from k) p (Edge w 0 init)) z e.1)).0 in omega arith in
      let x = forward u v m.less e.0 (from k) b far in
      let y = there u v m.less k in
      let z = e.2 in
      omega arith

  moved_wired : IsWired L
  moved_wired =
      record {
        sources = λ k p s d init l has.
            let e = edge_at k p s d init l has in
            subst (λ z. z < size L) e.2 (high e.0 (source_known k p e.0 d init l e.1));
        forward = moved_forward;
        constants = λ k p c l has. m.good.wired.constants (from k) p c (inside k l) (constant_at k p c l has);
      }

  moved_order : IsOrder L
  moved_order = subst (λ (es : List OrderEdge). IsOrder (record { nodes = L.nodes; order = es })) (sym m.none) (none_ordered L)

  name_is : (k : ℕ) → k < size L → (node L k).name ≡ (node K (place_from u v k)).name
  name_is k l = ap (λ (N : Node). N.name) (node_is k l)

  op_is : (k : ℕ) → k < size L → (node L k).op ≡ (node K (place_from u v k)).op
  op_is k l = ap (λ (N : Node). N.op) (node_is k l)

  port_is : (k : ℕ) → k < size L → (node L k).port ≡ (node K (place_from u v k)).port
  port_is k l = ap (λ (N : Node). N.port) (node_is k l)

  moved_named : IsNamed L
  moved_named =
      record {
        names = λ k l. subst (IsName longest_node_name) (sym (name_is k l)) (m.good.named.names (from k) (inside k l));
        apart = λ j k l n e. apart j k (m.good.named.apart (from j) (from k) (inside j l) (inside k n) (sym (name_is j l) ∙ e ∙ name_is k n));
      }

  pub moved_kernel : IsKernel L
  moved_kernel =
      record {
        few = subst (λ (z : ℕ). z ≤ most_nodes) (sym m.sized) m.good.few;
        named = moved_named;
        wired = moved_wired;
        order = moved_order;
        arities = λ k l.
            ap (λ (N : Node). length N.operands) (node_is k l)
            ∙ mapped_length (moved u v) (node K (from k)).operands
            ∙ m.good.arities (from k) (inside k l)
            ∙ ap arity (sym (op_is k l));
        valued = λ k p s d init l has.
            let e = edge_at k p s d init l has in
            let lu : s < size L = subst (λ z. z < size L) e.2 (high e.0 (source_known k p e.0 d init l e.1)) in
            let at : from s ≡ e.0 = ap from (sym e.2) ∙ back u v m.less e.0 in
            ap has_value (op_is s lu ∙ ap (λ z. (node K z).op) at) ∙ m.good.valued (from k) p e.0 d init (inside k l) e.1;
        near = λ k p s d init l has. let e = edge_at k p s d init l has in m.good.near (from k) p e.0 d init (inside k l) e.1;
        inits = λ k p s d init l has. let e = edge_at k p s d init l has in m.good.inits (from k) p e.0 d init (inside k l) e.1;
        init_words = λ k p s d j init l has. let e = edge_at k p s d init l has in m.good.init_words (from k) p e.0 d j init (inside k l) e.1;
        one_constant = λ k p q a b l x y. m.good.one_constant (from k) p q a b (inside k l) (constant_at k p a l x) (constant_at k q b l y);
        ports = λ k l. subst (λ (z : ℕ). z ≤ last_port) (sym (port_is k l)) (m.good.ports (from k) (inside k l));
        no_ports = λ k l e. port_is k l ∙ m.good.no_ports (from k) (inside k l) (ap has_port (sym (op_is k l)) ∙ e);
        one_output = λ j k l n a b e.
            apart j k
            (m.good.one_output (from j) (from k) (inside j l) (inside k n) (ap is_output (sym (op_is j l)) ∙ a) (ap is_output (sym (op_is k n)) ∙ b)
            (sym (port_is j l) ∙ e ∙ port_is k n));
      }

  -- ---- it does the same

  abbrev words : Image → ℕ → ℕ → ℕ
  words image k i = val K image (place_from u v k) i

  operand_same : (image : Image) (k p i : ℕ) (o : Operand) → k < size L → HasOperand K (place_from u v k) p o → operand (words image) i (moved u v o) ≡ operand (val K image) i o
  operand_same image k p i (Constant w) l has = refl
  operand_same image k p i (Edge s d init) l has = ap (λ z. cond (ltb i d) (slice_index init i) (val K image z (i - d))) (back u v m.less s)

  work_same : (image : Image) (k i : ℕ) → k < size L → work_of (node L k) i (words image) ≡ work K image (i * size K + place_from u v k)
  work_same image k i l =
      ap (λ (N : Node). work_of N i (words image)) (node_is k l)
      ∙ ap (λ args. record { op = (node K (from k)).op; port = (node K (from k)).port; turn = i; args = args })
      (mapped_twice (operand (words image) i) (moved u v) (node K (from k)).operands
      ∙ map_same (λ o. operand (words image) i (moved u v o)) (operand (val K image) i) (node K (from k)).operands (λ p o has. operand_same image k p i o l has))
      ∙ sym (work_is K image m.good.wired i (from k) (inside k l))

  not_moved : (k : ℕ) → k < size L → is_access (node L k).op ≡ true → place_from u v k ≡ u → ⊥
  not_moved k l a e = true≢false (sym a ∙ ap is_access (op_is k l ∙ ap (λ z. (node K z).op) e) ∙ m.plain)

  moved_ordered : (j k : ℕ) → j < k → k < size L → is_access (node L j).op ≡ true → is_access (node L k).op ≡ true →
      (is_store (node L j).op ≡ true) ⊎ (is_store (node L k).op ≡ true) → place_from u v j < place_from u v k
  moved_ordered j k b l a c st = rises u v m.less j k b (not_moved j (omega arith) a) (not_moved k l c)

  follows : (image : Image) (n : ℕ) → Follows K L image n from (words image)
  follows image n =
      record {
        inside = inside;
        apart = λ j k l b e. apart j k e;
        effects = λ w i l li has. (number w, high w l, back u v m.less w);
        ordered = moved_ordered;
        does = λ k i l li. same_stands K image (i * size K + from k) (work_of (node L k) i (words image)) (work_same image k i l);
      }

  alike : (image : Image) (n : ℕ) → RunsAlike K L image n (words image)
  alike image n = runs_alike K L image n from (words image) m.good moved_wired (follows image n)

  moved_runs : (image : Image) (n : ℕ) → LeavesAlike K L image n
  moved_runs image n = let a = alike image n in record { memory = a.memory; streams = a.streams; outside = a.outside; left = a.left }

  work_alike : (image : Image) (k i : ℕ) → k < size L → work L image (i * size L + k) ≡ work K image (i * size K + place_from u v k)
  work_alike image k i l = (alike image (suc i)).works k i l (omega arith) ∙ work_same image k i l

  pub moved_rewritten : IsRewritten K L
  moved_rewritten =
      record {
        from = from;
        inside = inside;
        apart = λ j k l b e. apart j k e;
        named = name_is;
        accesses = λ k l e. ap is_access (sym (op_is k l)) ∙ e;
        stores = λ k l e. ap is_store (sym (op_is k l)) ∙ e;
        ordered = moved_ordered;
        runs = λ image n _. moved_runs image n;
        reaches = λ image k i a _ l r. subst (λ (w : Work). Reaches w a) (work_alike image k i l) r;
      }

  -- ---- nodes u and v afterwards

  last_before : v - 1 < size L
  last_before = let a = m.less in let b = m.known in let c = m.sized in omega arith

  v_inside : v < size L
  v_inside = let b = m.known in let c = m.sized in omega arith

  pub node_u : node L (v - 1) ≡ moved_node u v (node K u)
  node_u = node_is (v - 1) last_before ∙ ap (λ z. moved_node u v (node K z)) (from_last u v m.less)

  pub node_v : node L v ≡ moved_node u v (node K v)
  node_v = node_is v v_inside ∙ ap (λ z. moved_node u v (node K z)) (from_above u v v (let a = m.less in omega arith) (omega arith))

  pub taken_moved : (init : List ℕ) → HasOperand K v i (Edge u 0 init) → HasOperand L v i (Edge (v - 1) 0 init)
  taken_moved init has =
      subst (λ (N : Node). slice_get N.operands i ≡ Some (Edge (v - 1) 0 init)) (sym node_v)
      (mapped_get (moved u v) (node K v).operands i (Edge u 0 init) has ∙ ap (λ z. Some (Edge z 0 init)) (number_at u v m.less))

  pub only_moved : IsOnlyUse L (v - 1) v i
  only_moved w q d init l has =
      let e = edge_at w q (v - 1) d init l has in
      let same : e.0 ≡ u = sym (back u v m.less e.0) ∙ ap from e.2 ∙ from_last u v m.less in
      let h = m.only (from w) q d init (inside w l) (subst (λ (s : ℕ). HasOperand K (from w) q (Edge s d init)) same e.1) in
      (sym (there u v m.less w) ∙ ap number h.0 ∙ number_above u v v (let a = m.less in omega arith) (omega arith), h.1)
