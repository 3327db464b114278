-- A kernel without some nodes from which nothing leads to a store or output.
use Rattle.std.proofs.Common.{◌≡◌, ℕ, zero, suc, ◌+◌, ◌-◌, ◌*◌, ◌<◌, ◌≤◌, Bool, true, false, List, [], ◌∷◌, length, map, Some, refl, sym, ap, ◌∙◌, subst, arith, ⊎_elim, cond, ltb}
use Rattle.std.specs.Prelude.{◌||◌, slice_get, slice_index, slice_index_or}
use Rattle.std.proofs.lemmas.Bool.{cases_lt, and_parts}
use Rattle.std.proofs.lemmas.List.{get_or_default, map-id, same_lists}
use Rattle.cg_word.specs.Word.{arity, has_port, has_value, is_access, is_store, is_output}
use Rattle.cg_model.specs.declared.kernel.Node.{Node}
use Rattle.cg_model.specs.declared.kernel.Operand.{Operand}
use Rattle.cg_model.specs.declared.kernel.Operand.TheVariants.{Const as Constant, Edge}
use Rattle.cg_model.specs.declared.kernel.OrderEdge.{OrderEdge}
use Rattle.cg_model.specs.Limits.{longest_node_name}
use Rattle.cg_model.specs.Names.{IsName}
use Rattle.cg_model.specs.Kernel.{Kernel, IsKernel, IsWired, IsOrder, IsNamed, HasOperand, no_node, node, size}
use Rattle.cg_model.specs.Work.{Image, Work, Reaches}
use Rattle.cg_model.specs.Turns.{operand, work, work_of, val}
use Rattle.cg_model.proofs.Elements.{map_get, map_same}
use Rattle.cg_overlap.proofs.Sequence.{step_node, work_is}
use Rattle.cg_simplify_draft.specs.Follows.{HasEffect, Follows, RunsAlike}
use Rattle.cg_simplify_draft.specs.Rewritten.{LeavesAlike, IsRewritten}
use Rattle.cg_simplify_draft.proofs.Stands.{same_stands}
use Rattle.cg_simplify_draft.proofs.Turns.{runs_alike}
use Rattle.cg_simplify_draft.proofs.Drafts.{none_ordered}
use Rattle.cg_simplify.proofs.Numbered.{all_kept, same_numbers}
use Rattle.cg_simplify.specs.Live.{AreMarked, AreNumbered, is_marked, moved, moved_node}

pub mapped_length : {X Y : Type 0} (f : X → Y) (xs : List X) → length (map f xs) ≡ length xs
mapped_length f [] = refl
mapped_length f (x ∷ xs) = ap suc (mapped_length f xs)

pub mapped_at : {X Y : Type 0} (f : X → Y) (xs : List X) (i : ℕ) (d : X) (e : Y) → i < length xs → slice_index_or (map f xs) i e ≡ f (slice_index_or xs i d)
mapped_at f [] i d e l = absurd (omega arith)
mapped_at f (x ∷ xs) zero d e l = refl
mapped_at f (x ∷ xs) (suc i) d e l = mapped_at f xs i d e (omega arith)

mapped_twice : {X Y Z : Type 0} (f : Y → Z) (g : X → Y) (xs : List X) → map f (map g xs) ≡ map (λ x. f (g x)) xs
mapped_twice f g [] = refl
mapped_twice f g (x ∷ xs) = ap (λ zs. f (g x) ∷ zs) (mapped_twice f g xs)

pub edge_from : (numbers : List ℕ) (q : Operand) (u d : ℕ) (init : List ℕ) → moved numbers q ≡ Edge u d init → (s : ℕ) × (q ≡ Edge s d init) × (slice_index numbers s ≡ u)
edge_from numbers (Constant w) u d init e = let bad : Constant w ≡ Edge u d init = e in absurd (cc)
edge_from numbers (Edge s x j) u d init e = let same : Edge (slice_index numbers s) x j ≡ Edge u d init = e in (s, cc, cc)

pub constant_from : (numbers : List ℕ) (q : Operand) (c : ℕ) → moved numbers q ≡ Constant c → q ≡ Constant c
constant_from numbers (Constant w) c e = e
constant_from numbers (Edge s x j) c e = let bad : Edge (slice_index numbers s) x j ≡ Constant c = e in absurd (cc)

module _ (K L : Kernel) (marks : List Bool) (kept numbers : List ℕ) (good : IsKernel K) (marked : AreMarked K marks) (h : AreNumbered (size K) marks kept numbers) (nodes : L.nodes ≡ map (λ (u : ℕ). moved_node numbers (node K u)) kept) (none : L.order ≡ []) where
  abbrev from : ℕ → ℕ
  from v = slice_index kept v

  abbrev number : ℕ → ℕ
  number u = slice_index numbers u

  size_is : size L ≡ length kept
  size_is = ap (λ (xs : List Node). length xs) nodes ∙ mapped_length (λ (u : ℕ). moved_node numbers (node K u)) kept

  node_is : (v : ℕ) → v < size L → node L v ≡ moved_node numbers (node K (from v))
  node_is v l =
      ap (λ (xs : List Node). slice_index_or xs v no_node) nodes
      ∙ mapped_at (λ (u : ℕ). moved_node numbers (node K u)) kept v 0 no_node (let e = size_is in omega arith)

  inside : (v : ℕ) → v < size L → from v < size K
  inside v l = h.below v (let e = size_is in omega arith)

  stays : (v : ℕ) → v < size L → is_marked marks (from v) ≡ true
  stays v l = h.marked v (let e = size_is in omega arith)

  number_inside : (u : ℕ) → u < size K → is_marked marks u ≡ true → number u < size L
  number_inside u l m = let x = h.inside u l m in let e = size_is in omega arith

  rising_back : (j k : ℕ) → j < size L → k < size L → from j < from k → j < k
  rising_back j k l m less =
      ⊎_elim (λ b. b)
      (λ b. ⊎_elim (λ c. let e = size_is in let x = h.rising k j c (omega arith) in absurd (omega arith))
      (λ c. let same : j ≡ k = omega arith in let x = ap from same in absurd (omega arith)) (cases_lt k j))
      (cases_lt j k)

  -- numbers keep the order
  forward : (u w : ℕ) → u < size K → w < size K → is_marked marks u ≡ true → is_marked marks w ≡ true → u < w → number u < number w
  forward u w l m a b less =
      rising_back (number u) (number w) (number_inside u l a) (number_inside w m b) (let x = h.back u l a in let y = h.back w m b in omega arith)

  apart : (v w : ℕ) → v < size L → w < size L → from v ≡ from w → v ≡ w
  apart v w l m e =
      ⊎_elim (λ b. let s = size_is in let x = h.rising v w b (omega arith) in absurd (omega arith))
      (λ b. ⊎_elim (λ c. let s = size_is in let x = h.rising w v c (omega arith) in absurd (omega arith)) (λ c. omega arith) (cases_lt w v))
      (cases_lt v w)

  -- ---- operands

  operand_at : (v p : ℕ) (o : Operand) → v < size L → HasOperand L v p o → (q : Operand) × (HasOperand K (from v) p q) × (moved numbers q ≡ o)
  operand_at v p o l has =
      let m = map_get (moved numbers) (node K (from v)).operands p o (subst (λ (N : Node). slice_get N.operands p ≡ Some o) (node_is v l) has) in
      (m.0, m.1.0, m.1.1)

  source_stays : (v p u d : ℕ) (init : List ℕ) → v < size L → HasOperand K (from v) p (Edge u d init) → is_marked marks u ≡ true
  source_stays v p u d init l has = (marked.each (from v) (inside v l)).fed p (Edge u d init) (stays v l) has

  edge_at : (v p u d : ℕ) (init : List ℕ) → v < size L → HasOperand L v p (Edge u d init) → (s : ℕ) × (HasOperand K (from v) p (Edge s d init)) × (is_marked marks s ≡ true) × (number s ≡ u)
  edge_at v p u d init l has =
      let q = operand_at v p (Edge u d init) l has in
      let e = edge_from numbers q.0 u d init q.2 in
      let there : HasOperand K (from v) p (Edge e.0 d init) = subst (λ (o : Operand). HasOperand K (from v) p o) e.1 q.1 in
      (e.0, there, source_stays v p e.0 d init l there, e.2)

  constant_at : (v p c : ℕ) → v < size L → HasOperand L v p (Constant c) → HasOperand K (from v) p (Constant c)
  constant_at v p c l has =
      let q = operand_at v p (Constant c) l has in
      subst (λ (o : Operand). HasOperand K (from v) p o) (constant_from numbers q.0 c q.2) q.1

  -- ---- the kernel is valid

  thin_wired : IsWired L
  thin_wired =
      record {
        sources = λ v p u d init l has.
            let e = edge_at v p u d init l has in
            subst (λ z. z < size L) e.3 (number_inside e.0 (good.wired.sources (from v) p e.0 d init (inside v l) e.1) e.2);
        forward = λ v p u init l has.
            let e = edge_at v p u 0 init l has in
            let lk = good.wired.sources (from v) p e.0 0 init (inside v l) e.1 in
            let b = good.wired.forward (from v) p e.0 init (inside v l) e.1 in
            let x = h.back e.0 lk e.2 in
            subst (λ z. z < v) e.3 (rising_back (number e.0) v (number_inside e.0 lk e.2) l (omega arith));
        constants = λ v p c l has. good.wired.constants (from v) p c (inside v l) (constant_at v p c l has);
      }

  thin_order : IsOrder L
  thin_order = subst (λ (es : List OrderEdge). IsOrder (record { nodes = L.nodes; order = es })) (sym none) (none_ordered L)

  name_is : (v : ℕ) → v < size L → (node L v).name ≡ (node K (from v)).name
  name_is v l = ap (λ (N : Node). N.name) (node_is v l)

  op_is : (v : ℕ) → v < size L → (node L v).op ≡ (node K (from v)).op
  op_is v l = ap (λ (N : Node). N.op) (node_is v l)

  port_is : (v : ℕ) → v < size L → (node L v).port ≡ (node K (from v)).port
  port_is v l = ap (λ (N : Node). N.port) (node_is v l)

  thin_named : IsNamed L
  thin_named =
      record {
        names = λ v l. subst (IsName longest_node_name) (sym (name_is v l)) (good.named.names (from v) (inside v l));
        apart = λ v w l m e. apart v w l m (good.named.apart (from v) (from w) (inside v l) (inside w m) (sym (name_is v l) ∙ e ∙ name_is w m));
      }

  pub thin_few : size L ≤ size K
  thin_few = let e = size_is in let x = h.few in omega arith

  pub thin_kernel : IsKernel L
  thin_kernel =
      record {
        few = let x = good.few in let y = thin_few in omega arith;
        named = thin_named;
        wired = thin_wired;
        order = thin_order;
        arities = λ v l.
            ap (λ (N : Node). length N.operands) (node_is v l)
            ∙ mapped_length (moved numbers) (node K (from v)).operands
            ∙ good.arities (from v) (inside v l)
            ∙ ap arity (sym (op_is v l));
        valued = λ v p u d init l has.
            let e = edge_at v p u d init l has in
            let lk = good.wired.sources (from v) p e.0 d init (inside v l) e.1 in
            let lu : u < size L = let x = number_inside e.0 lk e.2 in let y : number e.0 ≡ u = e.3 in omega arith in
            let there : from u ≡ e.0 = ap from (sym e.3) ∙ h.back e.0 lk e.2 in
            ap has_value (op_is u lu ∙ ap (λ z. (node K z).op) there) ∙ good.valued (from v) p e.0 d init (inside v l) e.1;
        near = λ v p u d init l has. let e = edge_at v p u d init l has in good.near (from v) p e.0 d init (inside v l) e.1;
        inits = λ v p u d init l has. let e = edge_at v p u d init l has in good.inits (from v) p e.0 d init (inside v l) e.1;
        init_words = λ v p u d k init l has. let e = edge_at v p u d init l has in good.init_words (from v) p e.0 d k init (inside v l) e.1;
        one_constant = λ v p q a b l x y. good.one_constant (from v) p q a b (inside v l) (constant_at v p a l x) (constant_at v q b l y);
        ports = λ v l. let x = good.ports (from v) (inside v l) in let y = port_is v l in omega arith;
        no_ports = λ v l e. port_is v l ∙ good.no_ports (from v) (inside v l) (ap has_port (sym (op_is v l)) ∙ e);
        one_output = λ v w l m a b e.
            apart v w l m
            (good.one_output (from v) (from w) (inside v l) (inside w m) (ap is_output (sym (op_is v l)) ∙ a) (ap is_output (sym (op_is w m)) ∙ b)
            (sym (port_is v l) ∙ e ∙ port_is w m));
      }

  -- ---- it does the same

  abbrev words : Image → ℕ → ℕ → ℕ
  words image v i = val K image (from v) i

  operand_same : (image : Image) (v p i : ℕ) (o : Operand) → v < size L → HasOperand K (from v) p o → operand (words image) i (moved numbers o) ≡ operand (val K image) i o
  operand_same image v p i (Constant w) l has = refl
  operand_same image v p i (Edge u d init) l has =
      let lk = good.wired.sources (from v) p u d init (inside v l) has in
      ap (λ z. cond (ltb i d) (slice_index init i) (val K image z (i - d))) (h.back u lk (source_stays v p u d init l has))

  work_same : (image : Image) (v i : ℕ) → v < size L → work_of (node L v) i (words image) ≡ work K image (i * size K + from v)
  work_same image v i l =
      ap (λ (N : Node). work_of N i (words image)) (node_is v l)
      ∙ ap (λ args. record { op = (node K (from v)).op; port = (node K (from v)).port; turn = i; args = args })
      (mapped_twice (operand (words image) i) (moved numbers) (node K (from v)).operands
      ∙ map_same (λ o. operand (words image) i (moved numbers o)) (operand (val K image) i) (node K (from v)).operands (λ p o has. operand_same image v p i o l has))
      ∙ sym (work_is K image good.wired i (from v) (inside v l))

  or_left : (a b : Bool) → a ≡ true → (a || b) ≡ true
  or_left true b e = refl
  or_left false b e = absurd (cc)

  or_right : (a b : Bool) → b ≡ true → (a || b) ≡ true
  or_right true b e = refl
  or_right false b e = e

  work_op : (image : Image) (u i : ℕ) → u < size K → (work K image (i * size K + u)).op ≡ (node K u).op
  work_op image u i l = ap (λ v. (node K v).op) (step_node i (size K) u l)

  effect_marked : (image : Image) (u i : ℕ) → u < size K → HasEffect (work K image (i * size K + u)) → is_marked marks u ≡ true
  effect_marked image u i l has =
      (marked.each u l).effect
      (⊎_elim
      (λ t. or_left _ _ (ap is_store (sym (work_op image u i l)) ∙ (and_parts _ _ t).0))
      (λ t. or_right _ _ (ap is_output (sym (work_op image u i l)) ∙ (and_parts _ _ t.1).0))
      has)

  rises : (v w : ℕ) → v < w → w < size L → from v < from w
  rises v w less l = h.rising v w less (let e = size_is in omega arith)

  follows : (image : Image) (n : ℕ) → Follows K L image n from (words image)
  follows image n =
      record {
        inside = inside;
        apart = apart;
        effects = λ u i l li has.
            let m = effect_marked image u i l has in
            (number u, number_inside u l m, h.back u l m);
        ordered = λ v w less l a b st. rises v w less l;
        does = λ v i l li. same_stands K image (i * size K + from v) (work_of (node L v) i (words image)) (work_same image v i l);
      }

  alike : (image : Image) (n : ℕ) → RunsAlike K L image n (words image)
  alike image n = runs_alike K L image n from (words image) good thin_wired (follows image n)

  thin_runs : (image : Image) (n : ℕ) → LeavesAlike K L image n
  thin_runs image n =
      let a = alike image n in
      record { memory = a.memory; streams = a.streams; outside = a.outside; left = a.left }

  work_alike : (image : Image) (v i : ℕ) → v < size L → work L image (i * size L + v) ≡ work K image (i * size K + from v)
  work_alike image v i l = (alike image (suc i)).works v i l (omega arith) ∙ work_same image v i l

  pub thin_rewritten : IsRewritten K L
  thin_rewritten =
      record {
        from = from;
        inside = inside;
        apart = apart;
        named = name_is;
        accesses = λ v l e. ap is_access (sym (op_is v l)) ∙ e;
        stores = λ v l e. ap is_store (sym (op_is v l)) ∙ e;
        ordered = λ v w less l a b st. rises v w less l;
        runs = λ image n _. thin_runs image n;
        reaches = λ image v i a _ l r. subst (λ (w : Work). Reaches w a) (work_alike image v i l) r;
      }

-- L is K without some nodes that have no effect
pub record IsThinned (K L : Kernel) (marks : List Bool) (kept numbers : List ℕ) : Type 0 where
  pub good : IsKernel K
  pub marked : AreMarked K marks
  pub numbered : AreNumbered (size K) marks kept numbers
  pub nodes : L.nodes ≡ map (λ (u : ℕ). moved_node numbers (node K u)) kept
  pub none : L.order ≡ []

pub thinned_kernel : (K L : Kernel) (marks : List Bool) (kept numbers : List ℕ) → IsThinned K L marks kept numbers → IsKernel L
thinned_kernel K L marks kept numbers t = thin_kernel K L marks kept numbers t.good t.marked t.numbered t.nodes t.none

pub thinned_rewritten : (K L : Kernel) (marks : List Bool) (kept numbers : List ℕ) → IsThinned K L marks kept numbers → IsRewritten K L
thinned_rewritten K L marks kept numbers t = thin_rewritten K L marks kept numbers t.good t.marked t.numbered t.nodes t.none

-- what the parts of the code give
pub thinned : (K L : Kernel) (marks m : List Bool) (kept k numbers a : List ℕ) → IsKernel K → AreMarked K marks
    → m ≡ marks → AreNumbered (length m) m kept numbers
    → k ≡ kept → a ≡ numbers → L.nodes ≡ map (λ (u : ℕ). moved_node a (node K u)) k
    → L.order ≡ [] → IsThinned K L marks kept numbers
thinned K L marks m kept k numbers a good marked m_is numbered k_is a_is nodes none =
    record {
      good = good;
      marked = marked;
      numbered = subst (λ z. AreNumbered z marks kept numbers) marked.long (subst (λ (z : List Bool). AreNumbered (length z) z kept numbers) m_is numbered);
      nodes = nodes ∙ ap (λ (z : List ℕ). map (λ (u : ℕ). moved_node z (node K u)) k) a_is ∙ ap (map (λ (u : ℕ). moved_node numbers (node K u))) k_is;
      none = none;
    }

-- ---- all nodes are kept

module _ (K : Kernel) (marks : List Bool) (kept numbers : List ℕ) (good : IsKernel K) (h : AreNumbered (size K) marks kept numbers) (all : size K ≤ length kept) where
  stays_put : (v p : ℕ) (o : Operand) → v < size K → HasOperand K v p o → moved numbers o ≡ o
  stays_put v p (Constant c) l has = refl
  stays_put v p (Edge u d init) l has =
      ap (λ (w : ℕ). Edge w d init) (same_numbers (size K) marks kept numbers h all u (good.wired.sources v p u d init l has))

  same_node : (v : ℕ) → v < size K → moved_node numbers (node K v) ≡ node K v
  same_node v l =
      ap (λ (os : List Operand). record (node K v) { operands = os })
      (map_same (moved numbers) (λ (o : Operand). o) (node K v).operands (λ p o has. stays_put v p o l has) ∙ map-id (node K v).operands)

  kept_nodes : map (λ (u : ℕ). moved_node numbers (node K u)) kept ≡ K.nodes
  kept_nodes =
      let few = h.few in
      let long = mapped_length (λ (u : ℕ). moved_node numbers (node K u)) kept in
      same_lists (map (λ (u : ℕ). moved_node numbers (node K u)) kept) K.nodes (omega arith)
      (λ k d l.
      let b : k < length kept = omega arith in
      let c : k < size K = omega arith in
      mapped_at (λ (u : ℕ). moved_node numbers (node K u)) kept k 0 d b
      ∙ ap (λ (u : ℕ). moved_node numbers (node K u)) (all_kept (size K) marks kept numbers h all k c)
      ∙ same_node k c
      ∙ get_or_default K.nodes k no_node d c)

pub same_nodes : (K L : Kernel) (marks : List Bool) (kept numbers : List ℕ) → IsThinned K L marks kept numbers → size K ≤ size L → L.nodes ≡ K.nodes
same_nodes K L marks kept numbers t few =
    let long = ap (λ (xs : List Node). length xs) t.nodes ∙ mapped_length (λ (u : ℕ). moved_node numbers (node K u)) kept in
    t.nodes ∙ kept_nodes K marks kept numbers t.good t.numbered (omega arith)
