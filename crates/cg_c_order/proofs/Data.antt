-- The edges of a kernel as one list.
use Rattle.std.proofs.Common.{◌≡◌, ℕ, zero, suc, ◌+◌, ◌<◌, ◌⊎◌, inl, inr, List, [], ◌∷◌, ◌++◌, length, Some, refl, ap, sym, ◌∙◌, subst, arith, zero-add, ⊎_elim}
use Rattle.std.specs.Prelude.{flat_map, slice_get, slice_index_or}
use Rattle.std.specs.List.{range_with_len}
use Rattle.cg_model.specs.declared.kernel.Node.{Node}
use Rattle.cg_model.specs.declared.kernel.Operand.{Operand}
use Rattle.cg_model.specs.declared.kernel.Operand.TheVariants.{Const as Constant, Edge}
use Rattle.cg_model.specs.declared.kernel.OrderEdge.{OrderEdge}
use Rattle.cg_model.specs.Kernel.{Kernel, IsKernel, no_node, size}
use Rattle.cg_model.specs.Order.{Links, by_data, by_order}
use Rattle.std.proofs.lemmas.List.{get_or_default}
use Rattle.cg_depend.proofs.Asked.{row_more}
use Rattle.cg_depend.proofs.Members.{In, in_append_cases, in_flat_map, in_flat_map_from, in_left, in_range, in_range_below, in_right}
use Rattle.cg_c_order.specs.Accesses.{edge}
use Rattle.cg_c_order.specs.Chains.{HasEdge, JoinBelow, data_edges, edge_of, edges_into, edges_of}

-- ---- one edge more

single : (w e : OrderEdge) (k : ℕ) → slice_get (w ∷ []) k ≡ Some e → w ≡ e
single w e zero h = cc
single w e (suc k) h = absurd (cc)

pub has_left : (E F : List OrderEdge) (u v d : ℕ) → HasEdge E u v d → HasEdge (E ++ F) u v d
has_left E F u v d h = in_left E F (edge u v d) h

pub has_last : (E : List OrderEdge) (u v d : ℕ) → HasEdge (E ++ edge u v d ∷ []) u v d
has_last E u v d = in_right E (edge u v d ∷ []) (edge u v d) (0, refl)

pub has_push_cases : (E : List OrderEdge) (w : OrderEdge) (u v d : ℕ) → HasEdge (E ++ w ∷ []) u v d → HasEdge E u v d ⊎ (w ≡ edge u v d)
has_push_cases E w u v d h = ⊎_elim (λ i. inl i) (λ i. inr (single w (edge u v d) i.0 i.1)) (in_append_cases E (w ∷ []) h.0 (edge u v d) h.1)

-- an edge over another number of turns is none of these
pub has_push_other : (E : List OrderEdge) (w : OrderEdge) (u v d : ℕ) → (w.distance ≡ d → ⊥) → HasEdge (E ++ w ∷ []) u v d → HasEdge E u v d
has_push_other E w u v d differs h = ⊎_elim {C = HasEdge E u v d} (λ i. i) (λ e. absurd (differs (ap (λ (x : OrderEdge). x.distance) e))) (has_push_cases E w u v d h)

-- ---- data edges

pub data_has : (nodes : List Node) (u v d p : ℕ) (init : List ℕ) → v < length nodes → slice_get (slice_index_or nodes v no_node).operands p ≡ Some (Edge u d init) → HasEdge (data_edges nodes) u v d
unfolding data_edges
data_has nodes u v d p init l h =
    in_flat_map (λ x. edges_into x (slice_index_or nodes x no_node).operands) (range_with_len 0 (length nodes)) v v (edge u v d)
    (in_range 0 (length nodes) v l ∙ ap Some (zero-add v))
    (in_flat_map (edge_of v) (slice_index_or nodes v no_node).operands p (Edge u d init) (edge u v d) h (0, refl))

-- an operand has that edge
record IsOperand (nodes : List Node) (u v d : ℕ) : Type 0 where
  place : ℕ
  init : List ℕ
  known : v < length nodes
  is : slice_get (slice_index_or nodes v no_node).operands place ≡ Some (Edge u d init)

operand_from : (nodes : List Node) (x p u v d : ℕ) (o : Operand) → x < length nodes → slice_get (slice_index_or nodes x no_node).operands p ≡ Some o → In (edge_of x o) (edge u v d) → IsOperand nodes u v d
operand_from nodes x p u v d (Constant c) l h i = absurd (let e = i.1 in cc)
operand_from nodes x p u v d (Edge a b init) l h i =
    let e : edge a x b ≡ edge u v d = single (edge a x b) (edge u v d) i.0 i.1 in
    let eu : a ≡ u = ap (λ (z : OrderEdge). z.from) e in
    let ev : x ≡ v = ap (λ (z : OrderEdge). z.to) e in
    let ed : b ≡ d = ap (λ (z : OrderEdge). z.distance) e in
    let one : IsOperand nodes a x b = record { place = p; init = init; known = l; is = h } in
    subst (λ z. IsOperand nodes z v d) eu (subst (λ z. IsOperand nodes a z d) ev (subst (λ z. IsOperand nodes a x z) ed one))

data_from : (nodes : List Node) (u v d : ℕ) → HasEdge (data_edges nodes) u v d → IsOperand nodes u v d
unfolding data_edges
data_from nodes u v d h =
    let (x, ix, hx) = in_flat_map_from (λ z. edges_into z (slice_index_or nodes z no_node).operands) (range_with_len 0 (length nodes)) (edge u v d) h in
    let (o, io, ho) = in_flat_map_from (edge_of x) (slice_index_or nodes x no_node).operands (edge u v d) hx in
    operand_from nodes x io.0 u v d o (let l = in_range_below 0 (length nodes) x ix in omega arith) io.1 ho

-- ---- links

pub link_has : (K : Kernel) (u v d : ℕ) → Links K u v d → HasEdge (edges_of K) u v d
link_has K u v d (by_data p init l h) = has_left (data_edges K.nodes) K.order u v d (data_has K.nodes u v d p init l h)
link_has K u v d (by_order e h) = in_right (data_edges K.nodes) K.order (edge u v d) (e, h)

pub link_from : (K : Kernel) (u v d : ℕ) → HasEdge (edges_of K) u v d → Links K u v d
link_from K u v d h =
    ⊎_elim {C = Links K u v d}
    (λ i. let o = data_from K.nodes u v d i in by_data o.place o.init o.known o.is)
    (λ i. by_order i.0 i.1)
    (in_append_cases (data_edges K.nodes) K.order h.0 (edge u v d) h.1)

-- the edges of a valid kernel join its nodes
pub edges_join : (K : Kernel) → IsKernel K → JoinBelow (size K) (edges_of K)
edges_join K good k e h = joins (link_from K e.from e.to e.distance (k, h)) where
  joins : Links K e.from e.to e.distance → (e.from < size K) × (e.to < size K)
  joins (by_data p init l i) = (good.wired.sources e.to p e.from e.distance init l i, l)
  joins (by_order n i) = good.order.known n e.from e.to e.distance i

-- the data edges of one node more
pub data_step : (nodes : List Node) (v : ℕ) (old new : List OrderEdge) (x : Node) (operands : List Operand) → v < length nodes → operands ≡ (slice_index_or nodes v x).operands →
    old ≡ flat_map (λ w. edges_into w (slice_index_or nodes w no_node).operands) (range_with_len 0 v) → new ≡ old ++ edges_into v operands → new ≡ flat_map (λ w. edges_into w (slice_index_or nodes w no_node).operands) (range_with_len 0 (v + 1))
data_step nodes v old new x operands l same before after =
    let F : ℕ → List OrderEdge = λ w. edges_into w (slice_index_or nodes w no_node).operands in
    after ∙ ap (λ z. z ++ edges_into v operands) before ∙ ap (λ (z : List Operand). flat_map F (range_with_len 0 v) ++ edges_into v z) (same ∙ ap (λ (n : Node). n.operands) (get_or_default nodes v x no_node l)) ∙ sym (row_more F v)
