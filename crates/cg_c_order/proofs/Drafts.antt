-- Kernels with one order edge more, and their tables of chains.
use Rattle.std.proofs.Common.{◌≡◌, ℕ, ◌<◌, ◌≤◌, Bool, true, false, List, [], ◌∷◌, ◌++◌, length, refl, ap, sym, ◌∙◌, subst, arith, take, drop, append_assoc, length-append, ⊎_elim}
use Rattle.std.proofs.lemmas.List.{append-nil, get_or_default}
use Rattle.std.specs.Prelude.{slice_index_or}
use Rattle.cg_model.specs.declared.kernel.Node.{Node}
use Rattle.cg_model.specs.declared.kernel.OrderEdge.{OrderEdge}
use Rattle.cg_model.specs.Kernel.{IsKernel, Kernel, size}
use Rattle.cg_model.specs.Limits.{most_order_distance, most_order_edges}
use Rattle.cg_depend.specs.Depend.{Within}
use Rattle.cg_c_order.specs.Accesses.{edge, kernel_with}
use Rattle.cg_c_order.specs.Chains.{JoinBelow, Leads, LeadsOver, data_edges, edges_of}
use Rattle.cg_c_order.specs.Choosing.{IsClosing, IsDraft, and_edge}
use Rattle.cg_c_order.specs.Marks.{AreAfter, AreBefore, AreJoined, IsTable, has, row}
use Rattle.cg_c_order.proofs.Data.{edges_join, has_left, has_push_cases, has_push_other}
use Rattle.cg_c_order.proofs.Joining.{near_joined, near_same, next_joined, written_back}
use Rattle.cg_c_order.proofs.Paths.{over_kept}
use Rattle.cg_c_order.proofs.Tables.{retable}
use Rattle.cg_c_order.proofs.Within.{leads_from, leads_within, over_from, over_within}

-- ---- valid kernels

-- an order edge that keeps the rules
pub record IsEdge (K : Kernel) (e : OrderEdge) : Type 0 where
  pub from : e.from < size K
  pub to : e.to < size K
  pub near : e.distance ≤ most_order_distance
  pub forward : e.distance ≡ 0 → e.from < e.to

pub edge_valid : (K : Kernel) (u v d : ℕ) → u < size K → v < size K → d ≤ most_order_distance → (d ≡ 0 → u < v) → IsEdge K (edge u v d)
edge_valid K u v d lu lv near forward = record { from = lu; to = lv; near = near; forward = forward }

is_edge : (K : Kernel) (e : OrderEdge) → IsEdge K e → (u v d : ℕ) → e ≡ edge u v d → IsEdge K (edge u v d)
is_edge K e h u v d s = subst (IsEdge K) s h

pub valid_more : (K : Kernel) (e : OrderEdge) → IsKernel K → IsEdge K e → length K.order < most_order_edges → IsKernel (and_edge K e)
valid_more K e good is room = record {
  few = good.few;
  named = record { names = good.named.names; apart = good.named.apart };
  wired = record { sources = good.wired.sources; forward = good.wired.forward; constants = good.wired.constants };
  order =
      record {
        few = omega (arith, length-append K.order (e ∷ []));
        known = λ k u v d h. ⊎_elim (λ i. good.order.known i.0 u v d i.1) (λ i. let w = is_edge K e is u v d i in (w.from, w.to)) (has_push_cases K.order e u v d (k, h));
        forward = λ k u v h. ⊎_elim (λ i. good.order.forward i.0 u v i.1) (λ i. let w = is_edge K e is u v 0 i in w.forward refl) (has_push_cases K.order e u v 0 (k, h));
        near = λ k u v d h. ⊎_elim (λ i. good.order.near i.0 u v d i.1) (λ i. let w = is_edge K e is u v d i in w.near) (has_push_cases K.order e u v d (k, h));
      };
  arities = good.arities;
  valued = good.valued;
  near = good.near;
  inits = good.inits;
  init_words = good.init_words;
  one_constant = good.one_constant;
  ports = good.ports;
  no_ports = good.no_ports;
  one_output = good.one_output;
}

-- ---- tables

pub edges_more : (K : Kernel) (e : OrderEdge) → edges_of K ++ e ∷ [] ≡ edges_of (and_edge K e)
edges_more K e = append_assoc (data_edges K.nodes) K.order (e ∷ [])

pub draft_start : (nodes : List Node) (edges : List OrderEdge) (near : List (List Bool)) → IsKernel (kernel_with nodes []) → edges ≡ data_edges nodes → IsTable (length nodes) (Leads edges) near → IsDraft (kernel_with nodes []) near
draft_start nodes edges near good e t = record { valid = good; chains = subst (λ z. IsTable (length nodes) (Leads z) near) (e ∙ sym (append-nil (data_edges nodes))) t }

pub data_join : (nodes : List Node) (edges : List OrderEdge) → IsKernel (kernel_with nodes []) → edges ≡ data_edges nodes → JoinBelow (length nodes) edges
data_join nodes edges good e = subst (JoinBelow (length nodes)) (append-nil (data_edges nodes) ∙ sym e) (edges_join (kernel_with nodes []) good)

pub draft_more : (K : Kernel) (u v : ℕ) (near : List (List Bool)) → IsDraft K near → u < v → v < size K → length K.order < most_order_edges →
    (sources targets : List Bool) → AreBefore near u sources → AreAfter near v targets → (near' : List (List Bool)) → AreJoined sources v targets near near' → IsDraft (and_edge K (edge u v 0)) near'
draft_more K u v near d l lv room sources targets b a near' j =
    let lu : u < size K = omega arith in
    record {
      valid = valid_more K (edge u v 0) d.valid (edge_valid K u v 0 lu lv (omega arith) (λ z. l)) room;
      chains =
          subst (λ z. IsTable (size K) (Leads z) near') (edges_more K (edge u v 0))
          (near_joined (size K) (edges_of K) (edge u v 0) lu lv near d.chains refl sources targets b a near' j);
    }

pub closing_start : (K : Kernel) (edges : List OrderEdge) (near next : List (List Bool)) → IsDraft K near → edges ≡ edges_of K →
    ((es : List OrderEdge) → IsTable (length near) (Leads es) near → IsTable (length near) (LeadsOver es edges) next) → IsClosing K near next
closing_start K edges near next d e t =
    let long : length near ≡ size K = d.chains.square.long in
    let n : IsTable (length near) (LeadsOver (edges_of K) edges) next = t (edges_of K) (subst (λ z. IsTable z (Leads (edges_of K)) near) (sym long) d.chains) in
    record { draft = d; chains = subst (λ z. IsTable (size K) (LeadsOver (edges_of K) z) next) e (subst (λ z. IsTable z (LeadsOver (edges_of K) edges) next) long n) }

pub closing_join : (K : Kernel) (edges : List OrderEdge) (near : List (List Bool)) → IsDraft K near → edges ≡ edges_of K → JoinBelow (length near) edges
closing_join K edges near d e = subst (λ z. JoinBelow z edges) (sym d.chains.square.long) (subst (JoinBelow (size K)) (sym e) (edges_join K d.valid))

one_not_zero : ◌≡◌ {A = ℕ} 1 0 → ⊥
one_not_zero e = omega arith

over_more_both : (E : List OrderEdge) (u v x y : ℕ) → LeadsOver E (E ++ edge u v 1 ∷ []) x y → LeadsOver (E ++ edge u v 1 ∷ []) (E ++ edge u v 1 ∷ []) x y
over_more_both E u v x y c = over_kept E (E ++ edge u v 1 ∷ []) (E ++ edge u v 1 ∷ []) (E ++ edge u v 1 ∷ []) (λ a b. has_left E (edge u v 1 ∷ []) a b 0) (λ a b h. h) x y c

over_less_both : (E : List OrderEdge) (u v x y : ℕ) → LeadsOver (E ++ edge u v 1 ∷ []) (E ++ edge u v 1 ∷ []) x y → LeadsOver E (E ++ edge u v 1 ∷ []) x y
over_less_both E u v x y c = over_kept (E ++ edge u v 1 ∷ []) (E ++ edge u v 1 ∷ []) E (E ++ edge u v 1 ∷ []) (λ a b. has_push_other E (edge u v 1) a b 0 one_not_zero) (λ a b h. h) x y c

pub closing_more : (K : Kernel) (u v : ℕ) (near next : List (List Bool)) → IsClosing K near next → u < size K → v < size K → length K.order < most_order_edges →
    (sources targets : List Bool) → AreBefore near u sources → AreAfter near v targets → (next' : List (List Bool)) → AreJoined sources v targets next next' → IsClosing (and_edge K (edge u v 1)) near next'
closing_more K u v near next d lu lv room sources targets b a next' j =
    let n = size K in
    let E = edges_of K in
    let e = edge u v 1 in
    record {
      draft =
          record {
            valid = valid_more K e d.draft.valid (edge_valid K u v 1 lu lv (omega arith) (λ z. absurd (one_not_zero z))) room;
            chains = subst (λ z. IsTable n (Leads z) near) (edges_more K e) (near_same n E e lu lv near d.draft.chains one_not_zero);
          };
      chains =
          subst (λ z. IsTable n (LeadsOver z z) next') (edges_more K e)
          (retable n (LeadsOver E (E ++ e ∷ [])) (LeadsOver (E ++ e ∷ []) (E ++ e ∷ [])) next' (over_more_both E u v) (over_less_both E u v)
          (next_joined n E E e lu lv near next d.draft.chains d.chains refl sources targets b a next' j));
    }

-- ---- as the code has them

-- an order edge within the turn, where the tables were lent and are written back
pub draft_added : (K : Kernel) (u v : ℕ) (near first second third : List (List Bool)) → IsDraft K near → u < v → v < size K → length K.order < most_order_edges → first ≡ near → second ≡ near → third ≡ near →
    (sources targets : List Bool) → AreBefore first u sources → AreAfter second v targets → (new : List (List Bool)) → AreJoined sources v targets third new → (len : ℕ) → len ≡ length near →
    (order : List OrderEdge) → order ≡ K.order ++ edge u v 0 ∷ [] → IsDraft (kernel_with K.nodes order) (take len (new ++ drop (length new) near))
draft_added K u v near first second third d l lv room e1 e2 e3 sources targets b a new j len en order eo =
    let more = draft_more K u v near d l lv room sources targets (subst (λ z. AreBefore z u sources) e1 b) (subst (λ z. AreAfter z v targets) e2 a) new (subst (λ z. AreJoined sources v targets z new) e3 j) in
    let back = written_back len near new en (j.long ∙ ap length e3) in
    subst (λ z. IsDraft (kernel_with K.nodes order) z) (sym back) (subst (λ z. IsDraft (kernel_with K.nodes z) new) (sym eo) more)

-- an order edge to the next turn
pub closing_added : (K : Kernel) (u v : ℕ) (near next first second third : List (List Bool)) → IsClosing K near next → u < size K → v < size K → length K.order < most_order_edges → first ≡ near → second ≡ near → third ≡ next →
    (sources targets : List Bool) → AreBefore first u sources → AreAfter second v targets → (new : List (List Bool)) → AreJoined sources v targets third new → (len : ℕ) → len ≡ length next →
    (order : List OrderEdge) → order ≡ K.order ++ edge u v 1 ∷ [] → IsClosing (kernel_with K.nodes order) near (take len (new ++ drop (length new) next))
closing_added K u v near next first second third d lu lv room e1 e2 e3 sources targets b a new j len en order eo =
    let more = closing_more K u v near next d lu lv room sources targets (subst (λ z. AreBefore z u sources) e1 b) (subst (λ z. AreAfter z v targets) e2 a) new (subst (λ z. AreJoined sources v targets z new) e3 j) in
    let back = written_back len next new en (j.long ∙ ap length e3) in
    subst (λ z. IsClosing (kernel_with K.nodes order) near z) (sym back) (subst (λ z. IsClosing (kernel_with K.nodes z) near new) (sym eo) more)

-- ---- what a mark says

pub marked_near : (K : Kernel) (near : List (List Bool)) → IsDraft K near → (u v : ℕ) → u < size K → v < size K → (x : List Bool) → has (slice_index_or near u x) v ≡ true → Within K u v 0
marked_near K near d u v lu lv x h = leads_within K u v (d.chains.sound u v lu lv (ap (λ r. has r v) (get_or_default near u [] x (let e = d.chains.square.long in omega arith)) ∙ h))

pub unmarked_near : (K : Kernel) (near : List (List Bool)) → IsDraft K near → (u v : ℕ) → u < size K → v < size K → (x : List Bool) → has (slice_index_or near u x) v ≡ false → Within K u v 0 → ⊥
unmarked_near K near d u v lu lv x h w =
    let e = d.chains.complete u v lu lv (leads_from K u v w) in
    let f : has (row near u) v ≡ false = ap (λ r. has r v) (get_or_default near u [] x (let l = d.chains.square.long in omega arith)) ∙ h in
    absurd (cc (e, f))

pub marked_next : (K : Kernel) (near next : List (List Bool)) → IsClosing K near next → (u v : ℕ) → u < size K → v < size K → (x : List Bool) → has (slice_index_or next u x) v ≡ true → Within K u v 1
marked_next K near next d u v lu lv x h = over_within K u v (d.chains.sound u v lu lv (ap (λ r. has r v) (get_or_default next u [] x (let e = d.chains.square.long in omega arith)) ∙ h))

pub unmarked_next : (K : Kernel) (near next : List (List Bool)) → IsClosing K near next → (u v : ℕ) → u < size K → v < size K → (x : List Bool) → has (slice_index_or next u x) v ≡ false → Within K u v 1 → ⊥
unmarked_next K near next d u v lu lv x h w =
    let e = d.chains.complete u v lu lv (over_from K u v w) in
    let f : has (row next u) v ≡ false = ap (λ r. has r v) (get_or_default next u [] x (let l = d.chains.square.long in omega arith)) ∙ h in
    absurd (cc (e, f))
