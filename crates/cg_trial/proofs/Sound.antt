-- The kernel is valid, and its accesses are ordered.
use Rattle.std.proofs.Common.{◌≡◌, ℕ, zero, suc, ◌<◌, ◌≤◌, ◌⊎◌, inl, inr, List, ◌++◌, length, Some, None, refl, ap, ap₂, sym, ◌∙◌, subst, arith, lit≤, ⊎_elim, append_assoc}
use Rattle.std.specs.Prelude.{slice_get}
use Rattle.std.proofs.lemmas.Option.{slice_get-get_or}
use Rattle.rand_pcg.specs.Lcg.{Lcg}
use Rattle.cg_model.specs.declared.kernel.Node.{Node}
use Rattle.cg_model.specs.declared.kernel.OrderEdge.{OrderEdge}
use Rattle.cg_model.specs.declared.kernel.Operand.{Operand}
use Rattle.cg_model.specs.declared.kernel.Operand.TheVariants.{Const as Constant, Edge}
use Rattle.cg_model.specs.Kernel.{Kernel, IsKernel, IsWired, IsOrder, IsNamed, HasOperand, HasOrder, size, node, no_node}
use Rattle.cg_model.specs.Names.{IsName}
use Rattle.cg_model.specs.Work.{Image}
use Rattle.cg_model.specs.Order.{IsOrdered, IsUnaliased, one, by_order}
use Rattle.cg_model.proofs.Identifiers.{is_name-IsName}
use Rattle.cg_overlap.proofs.Unaliased.{unaliased_from}
use Rattle.cg_trial.specs.Words.{generator, rest}
use Rattle.cg_trial.specs.Drawn.{node_name, first_nodes, drawn_nodes, last_nodes, order_edges, drawn_kernel, trial_kernel}
use Rattle.cg_trial.proofs.Numerals.{numbered, nodes_apart}
use Rattle.cg_trial.proofs.Nodes.{IsOperandOf, IsNodeAt, AreNodes, node_in, all_nodes_are, all_nodes_length}

-- ---- order edges

edge_is : (x y : OrderEdge) → Some x ≡ Some y → x ≡ y
edge_is x y e = cc

no_edge : {P : Type 0} (x : OrderEdge) → None ≡ Some x → P
no_edge x e = absurd (cc)

-- an order edge is one of the two
abbrev IsOne : ℕ → ℕ → ℕ → Type 0
IsOne u v d = ((u ≡ 29) × (v ≡ 30) × (d ≡ 0)) ⊎ ((u ≡ 30) × (v ≡ 29) × (d ≡ 1))

order_is : (e u v d : ℕ) → slice_get order_edges e ≡ Some (record { from = u; to = v; distance = d }) → IsOne u v d
order_is zero u v d h =
    let s = edge_is (record { from = 29; to = 30; distance = 0 }) (record { from = u; to = v; distance = d }) h in
    inl (sym (ap (λ o. o.from) s), sym (ap (λ o. o.to) s), sym (ap (λ o. o.distance) s))
order_is (suc zero) u v d h =
    let s = edge_is (record { from = 30; to = 29; distance = 1 }) (record { from = u; to = v; distance = d }) h in
    inr (sym (ap (λ o. o.from) s), sym (ap (λ o. o.to) s), sym (ap (λ o. o.distance) s))
order_is (suc (suc e)) u v d h = no_edge (record { from = u; to = v; distance = d }) h

-- ---- a kernel whose nodes are as they should be

module _ (K : Kernel) (are : AreNodes 0 K.nodes) (long : length K.nodes ≡ 32) (edges : K.order ≡ order_edges) where
  at : (v : ℕ) → v < size K → IsNodeAt v (node K v)
  at v l = node_in 0 v v K.nodes (node K v) are (slice_get-get_or K.nodes v no_node l) (omega arith)

  pub operand_is : (v p : ℕ) (o : Operand) → v < size K → HasOperand K v p o → IsOperandOf v o
  operand_is v p o l h = (at v l).operands p o h

  wired : IsWired K
  wired =
      record {
        sources = λ v p u d init l h. let o = operand_is v p (Edge u d init) l h in let small : u < 30 = o.1 in omega arith;
        forward = λ v p u init l h. (operand_is v p (Edge u 0 init) l h).0;
        constants = λ v p c l h. operand_is v p (Constant c) l h;
      }

  order_in : (e u v d : ℕ) → HasOrder K e u v d → IsOne u v d
  order_in e u v d h = order_is e u v d (ap (λ os. slice_get os e) (sym edges) ∙ h)

  ordered : IsOrder K
  ordered =
      record {
        few = subst (λ os. length os ≤ 4096) (sym edges) (lit≤ tt);
        known = λ e u v d h. ⊎_elim (λ o. let a : u ≡ 29 = o.0 in let b : v ≡ 30 = o.1 in (omega arith, omega arith)) (λ o. let a : u ≡ 30 = o.0 in let b : v ≡ 29 = o.1 in (omega arith, omega arith)) (order_in e u v d h);
        forward = λ e u v h. ⊎_elim (λ o. let a : u ≡ 29 = o.0 in let b : v ≡ 30 = o.1 in omega arith) (λ o. let bad : ◌≡◌ {A = ℕ} 0 1 = o.2 in absurd (omega arith)) (order_in e u v 0 h);
        near = λ e u v d h. ⊎_elim (λ o. let a : d ≡ 0 = o.2 in omega arith) (λ o. let a : d ≡ 1 = o.2 in omega arith) (order_in e u v d h);
      }

  named : IsNamed K
  named =
      record {
        names = λ v l. subst (λ n. IsName 32 n) (sym (at v l).named) (is_name-IsName 32 (node_name v) (numbered 118 32 v refl refl refl refl (omega arith)));
        apart = λ v w l m e. nodes_apart v w (omega arith) (omega arith) (sym (at v l).named ∙ e ∙ (at w m).named);
      }

  pub sound : IsKernel K
  sound =
      record {
        few = omega arith;
        named = named;
        wired = wired;
        order = ordered;
        arities = λ v l. (at v l).many;
        valued = λ v p u d init l h. let o = operand_is v p (Edge u d init) l h in let small : u < 30 = o.1 in (at u (omega arith)).valued small;
        near = λ v p u d init l h. let o = operand_is v p (Edge u d init) l h in let small : d ≤ 2 = o.2 in omega arith;
        inits = λ v p u d init l h. (operand_is v p (Edge u d init) l h).3;
        init_words = λ v p u d k init l h. (operand_is v p (Edge u d init) l h).4 k;
        one_constant = λ v p q a b l h m. (at v l).one p q a b h m;
        ports = λ v l. let z : (node K v).port ≡ 0 = (at v l).port in omega arith;
        no_ports = λ v l h. (at v l).port;
        one_output = λ v w l m e f h. (at v l).sends e ∙ sym ((at w m).sends f);
      }

  -- ---- accesses

  there : (i j : ℕ) → i ≤ j → IsOrdered K 29 i 30 j
  there i j l = inr (0, one (by_order 0 (ap (λ os. slice_get os 0) edges)), omega arith)

  back : (i j : ℕ) → i < j → IsOrdered K 30 i 29 j
  back i j l = inr (1, one (by_order 1 (ap (λ os. slice_get os 1) edges)), omega arith)

  pairs : (u i v j : ℕ) → (u ≡ 29) ⊎ (u ≡ 30) → (v ≡ 29) ⊎ (v ≡ 30) → (u < v → i ≤ j → IsOrdered K u i v j) × (v < u → i < j → IsOrdered K u i v j)
  pairs u i v j (inl a) (inl b) = (λ l k. absurd (omega arith), λ l k. absurd (omega arith))
  pairs u i v j (inl a) (inr b) = (λ l k. rw (a, b) (there i j k), λ l k. absurd (omega arith))
  pairs u i v j (inr a) (inl b) = (λ l k. absurd (omega arith), λ l k. rw (a, b) (back i j k))
  pairs u i v j (inr a) (inr b) = (λ l k. absurd (omega arith), λ l k. absurd (omega arith))

  pub unaliased : (n : ℕ) (image : Image) → IsUnaliased K n image
  unaliased n image =
      unaliased_from K n image wired (λ a u i v j lu lv lj ru rv st. pairs u i v j ((at u lu).reaches ru.is) ((at v lv).reaches rv.is))

-- ---- that of a seed

order_of : (g : Lcg) → (drawn_kernel g).order ≡ order_edges
unfolding drawn_kernel
order_of g = refl

pub trial_sound : (seed : ℕ) → IsKernel (trial_kernel seed)
unfolding trial_kernel
trial_sound seed = sound (drawn_kernel (generator seed)) (all_nodes_are (generator seed)) (all_nodes_length (generator seed)) (order_of (generator seed))

pub trial_unaliased : (seed n : ℕ) (image : Image) → IsUnaliased (trial_kernel seed) n image
unfolding trial_kernel
trial_unaliased seed = unaliased (drawn_kernel (generator seed)) (all_nodes_are (generator seed)) (all_nodes_length (generator seed)) (order_of (generator seed))

-- ---- as it is made, step by step

pub kernel_made : (seed : ℕ) (g h : Lcg) (first drawn nodes : List Node) (order : List OrderEdge) → g ≡ generator seed → first ≡ first_nodes g → h ≡ rest g
    → drawn ≡ first ++ drawn_nodes 2 26 h → nodes ≡ drawn ++ last_nodes → order ≡ order_edges → record { nodes = nodes; order = order } ≡ trial_kernel seed
unfolding trial_kernel drawn_kernel
kernel_made seed g h first drawn nodes order a b c d e f =
    let K : List Node → List OrderEdge → Kernel = λ ns os. record { nodes = ns; order = os } in
    let all : nodes ≡ first_nodes (generator seed) ++ (drawn_nodes 2 26 (rest (generator seed)) ++ last_nodes) =
    e ∙ ap (λ z. z ++ last_nodes) (d ∙ ap₂ (λ x y. x ++ drawn_nodes 2 26 y) (b ∙ ap first_nodes a) (c ∙ ap rest a))
    ∙ append_assoc (first_nodes (generator seed)) (drawn_nodes 2 26 (rest (generator seed))) last_nodes in
    ap₂ K all f
