-- A kernel in which edges come from nodes that their sources are like.
use Rattle.std.proofs.Common.{◌≡◌, ℕ, ◌-◌, ◌<◌, ◌≤◌, List, [], length, map, Some, refl, sym, ap, ◌∙◌, subst, arith, ⊎_elim}
use Rattle.std.specs.Prelude.{slice_get, slice_index}
use Rattle.std.proofs.lemmas.Bool.{cases_lt, le-ltb, lt-ltb}
use Rattle.cg_word.specs.Word.{arity, has_port, has_value, is_output}
use Rattle.cg_model.specs.Names.{IsName}
use Rattle.cg_model.specs.Limits.{last_port, longest_node_name, most_nodes}
use Rattle.cg_model.specs.declared.kernel.Node.{Node}
use Rattle.cg_model.specs.declared.kernel.Operand.{Operand}
use Rattle.cg_model.specs.declared.kernel.Operand.TheVariants.{Const as Constant, Edge}
use Rattle.cg_model.specs.Kernel.{Kernel, HasOperand, IsKernel, IsNamed, IsWired, no_node, node, size}
use Rattle.cg_model.proofs.Elements.{map_get}
use Rattle.cg_simplify.specs.Live.{moved, moved_node}
use Rattle.cg_simplify.specs.Merging.{AreLike, IsLike}
use Rattle.cg_simplify.specs.Operands.{Exchanges, IsAlike}
use Rattle.cg_simplify_draft.proofs.Drafts.{none_ordered, one_operand}
use Rattle.cg_simplify.proofs.Thinned.{constant_from, edge_from, mapped_at, mapped_length}

-- K with edges from the nodes of the table
abbrev pub merged : Kernel → List ℕ → Kernel
merged K into = record { nodes = map (moved_node into) K.nodes; order = [] }

module _ (K : Kernel) (into : List ℕ) (good : IsKernel K) (long : length into ≡ size K) (all : AreLike K into) where
  pub sized : size (merged K into) ≡ size K
  sized = mapped_length (moved_node into) K.nodes

  low : (v : ℕ) → v < size (merged K into) → v < size K
  low v l = omega (arith, l, sized)

  high : (v : ℕ) → v < size K → v < size (merged K into)
  high v l = omega (arith, l, sized)

  node_is : (v : ℕ) → v < size K → node (merged K into) v ≡ moved_node into (node K v)
  node_is v l = mapped_at (moved_node into) K.nodes v no_node no_node l

  same_name : (v : ℕ) → v < size (merged K into) → (node (merged K into) v).name ≡ (node K v).name
  same_name v l = ap (λ (n : Node). n.name) (node_is v (low v l))

  same_op : (v : ℕ) → v < size (merged K into) → (node (merged K into) v).op ≡ (node K v).op
  same_op v l = ap (λ (n : Node). n.op) (node_is v (low v l))

  same_port : (v : ℕ) → v < size (merged K into) → (node (merged K into) v).port ≡ (node K v).port
  same_port v l = ap (λ (n : Node). n.port) (node_is v (low v l))

  same_count : (v : ℕ) → v < size (merged K into) → length (node (merged K into) v).operands ≡ length (node K v).operands
  same_count v l = ap (λ (n : Node). length n.operands) (node_is v (low v l)) ∙ mapped_length (moved into) (node K v).operands

  -- ---- operands

  operand_at : (v p : ℕ) (o : Operand) → v < size (merged K into) → HasOperand (merged K into) v p o → (q : Operand) × (HasOperand K v p q) × (moved into q ≡ o)
  operand_at v p o l has =
      let m = map_get (moved into) (node K v).operands p o (subst (λ (n : Node). slice_get n.operands p ≡ Some o) (node_is v (low v l)) has) in
      (m.0, m.1.0, m.1.1)

  -- an edge of the new kernel, and the source that it had
  record Moved (v p u d : ℕ) (init : List ℕ) : Type 0 where
    source : ℕ
    there : HasOperand K v p (Edge source d init)
    inside : source < size K
    goes : u ≡ slice_index into source
    like : IsLike K source u

  edge_at : (v p u d : ℕ) (init : List ℕ) → v < size (merged K into) → HasOperand (merged K into) v p (Edge u d init) → Moved v p u d init
  edge_at v p u d init l has =
      let q = operand_at v p (Edge u d init) l has in
      let e = edge_from into q.0 u d init q.2 in
      let there : HasOperand K v p (Edge e.0 d init) = subst (λ (o : Operand). HasOperand K v p o) e.1 q.1 in
      let inside : e.0 < size K = good.wired.sources v p e.0 d init (low v l) there in
      record {
        source = e.0;
        there = there;
        inside = inside;
        goes = sym e.2;
        like = subst (IsLike K e.0) e.2 (all e.0 (omega (arith, inside, long)));
      }

  constant_at : (v p c : ℕ) → v < size (merged K into) → HasOperand (merged K into) v p (Constant c) → HasOperand K v p (Constant c)
  constant_at v p c l has =
      let q = operand_at v p (Constant c) l has in
      subst (λ (o : Operand). HasOperand K v p o) (constant_from into q.0 c q.2) q.1

  -- ---- the kernel is valid

  source_inside : (v p u d : ℕ) (init : List ℕ) → v < size (merged K into) → HasOperand (merged K into) v p (Edge u d init) → u < size K
  source_inside v p u d init l has = let e = edge_at v p u d init l has in omega (arith, e.like.before, e.inside)

  pub wired : IsWired (merged K into)
  wired =
      record {
        sources = λ v p u d init l has. high u (source_inside v p u d init l has);
        forward = λ v p u init l has.
            let e = edge_at v p u 0 init l has in
            let b : e.source < v = good.wired.forward v p e.source init (low v l) e.there in
            omega (arith, e.like.before, b);
        constants = λ v p c l has. good.wired.constants v p c (low v l) (constant_at v p c l has);
      }

  named : IsNamed (merged K into)
  named =
      record {
        names = λ v l. subst (IsName longest_node_name) (sym (same_name v l)) (good.named.names v (low v l));
        apart = λ v w l m e. good.named.apart v w (low v l) (low w m) (sym (same_name v l) ∙ e ∙ same_name w m);
      }

  pub valid : IsKernel (merged K into)
  valid =
      record {
        few = subst (λ (z : ℕ). z ≤ most_nodes) (sym sized) good.few;
        named = named;
        wired = wired;
        order = none_ordered (merged K into);
        arities = λ v l. same_count v l ∙ good.arities v (low v l) ∙ ap arity (sym (same_op v l));
        valued = λ v p u d init l has.
            let e = edge_at v p u d init l has in
            ap has_value (same_op u (high u (source_inside v p u d init l has))) ∙ e.like.valued (good.valued v p e.source d init (low v l) e.there);
        near = λ v p u d init l has. let e = edge_at v p u d init l has in good.near v p e.source d init (low v l) e.there;
        inits = λ v p u d init l has. let e = edge_at v p u d init l has in good.inits v p e.source d init (low v l) e.there;
        init_words = λ v p u d k init l has. let e = edge_at v p u d init l has in good.init_words v p e.source d k init (low v l) e.there;
        one_constant = λ v p q a b l g h. good.one_constant v p q a b (low v l) (constant_at v p a l g) (constant_at v q b l h);
        ports = λ v l. subst (λ (z : ℕ). z ≤ last_port) (sym (same_port v l)) (good.ports v (low v l));
        no_ports = λ v l e. same_port v l ∙ good.no_ports v (low v l) (ap has_port (sym (same_op v l)) ∙ e);
        one_output = λ v w l m a b e.
            good.one_output v w (low v l) (low w m)
            (ap is_output (sym (same_op v l)) ∙ a)
            (ap is_output (sym (same_op w m)) ∙ b)
            (sym (same_port v l) ∙ e ∙ same_port w m);
      }

  -- ---- its operands are alike

  moved_alike : (v p : ℕ) (o : Operand) → v < size K → HasOperand K v p o → IsAlike K o (moved into o)
  moved_alike v p (Constant c) l has image i words = refl
  moved_alike v p (Edge u d init) l has image i words =
      let inside : u < size K = good.wired.sources v p u d init l has in
      ⊎_elim
      (λ (a : i < d). rw (lt-ltb i d a) refl)
      (λ (a : d ≤ i). rw (le-ltb i d a) ((all u (omega (arith, inside, long))).same image (i - d) words))
      (cases_lt i d)

  pub exchanges : Exchanges K (merged K into)
  exchanges =
      record {
        sized = sized;
        named = same_name;
        ops = same_op;
        ports = same_port;
        counts = same_count;
        alike = λ v p o q l g h.
            let x = operand_at v p q l h in
            let is : moved into o ≡ q = ap (moved into) (one_operand K v p o x.0 g x.1) ∙ x.2 in
            subst (IsAlike K o) is (moved_alike v p o (low v l) g);
      }
