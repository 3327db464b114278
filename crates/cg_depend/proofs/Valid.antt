-- The kernel with the added edges is valid.
use Rattle.std.proofs.Common.{◌≡◌, ℕ, zero, suc, ◌+◌, ◌<◌, ◌≤◌, List, [], ◌∷◌, length, length-append, Some, refl, subst, arith, ⊎_elim}
use Rattle.std.specs.Prelude.{◌&&◌, nat_lt, slice_get, flat_map}
use Rattle.std.specs.List.{range_with_len}
use Rattle.std.proofs.lemmas.Bool.{cases_Bool, cond-true, cond-false, and_parts, ltb-true}
use Rattle.cg_model.specs.Limits.{most_order_distance, most_order_edges}
use Rattle.cg_model.specs.declared.kernel.OrderEdge.{OrderEdge}
use Rattle.cg_model.specs.Kernel.{Kernel, IsKernel, size}
use Rattle.cg_depend.specs.Depend.{Ask, asks, asks_of, conflict, Gap, first, unknown, Added, none, apart, chained, added, edge_for, with_order, AreNeeded}
use Rattle.cg_depend.proofs.Members.{In, in_append_cases, in_flat_map_from, in_range_below}

-- a question between two nodes, in one turn only from the earlier one
pub record IsAsk (K : Kernel) (a : Ask) : Type 0 where
  pub source : a.source < size K
  pub target : a.target < size K
  pub distinct : a.source ≡ a.target → ⊥
  pub forward : a.least ≡ 0 → a.source < a.target

one_of_two : (K : Kernel) (u v : ℕ) (a : Ask) (k : ℕ) → u < size K → v < size K → u < v → slice_get (record { source = u; target = v; least = 0 } ∷ record { source = v; target = u; least = 1 } ∷ []) k ≡ Some a → IsAsk K a
one_of_two K u v a zero lu lv l e = let z : record { source = u; target = v; least = 0 } ≡ a = cc in subst (IsAsk K) z record { source = lu; target = lv; distinct = λ y. omega arith; forward = λ y. l }
one_of_two K u v a (suc zero) lu lv l e = let z : record { source = v; target = u; least = 1 } ≡ a = cc in subst (IsAsk K) z record { source = lv; target = lu; distinct = λ y. omega arith; forward = λ y. absurd (omega arith) }
one_of_two K u v a (suc (suc k)) lu lv l e = absurd (cc)

ask_of : (K : Kernel) (u v : ℕ) (a : Ask) → u < size K → v < size K → In (asks_of K u v) a → IsAsk K a
ask_of K u v a lu lv h =
    ⊎_elim
    (λ t.
    let h' = subst (λ xs. In xs a) (cond-true (nat_lt u v && conflict K u v) _ [] t) h in
    one_of_two K u v a h'.0 lu lv (ltb-true u v (and_parts _ _ t).0) h'.1)
    (λ t. let h' = subst (λ xs. In xs a) (cond-false (nat_lt u v && conflict K u v) _ [] t) h in let y = h'.1 in absurd (cc))
    (cases_Bool (nat_lt u v && conflict K u v))

pub ask_in : (K : Kernel) (a : Ask) → In (asks K) a → IsAsk K a
ask_in K a h =
    let (u, iu, hu) = in_flat_map_from (λ w. flat_map (asks_of K w) (range_with_len 0 (size K))) (range_with_len 0 (size K)) a h in
    let (v, iv, hv) = in_flat_map_from (asks_of K u) (range_with_len 0 (size K)) a hu in
    ask_of K u v a (let l = in_range_below 0 (size K) u iu in omega arith) (let l = in_range_below 0 (size K) v iv in omega arith) hv

pub gap_least : (K : Kernel) (a : Ask) (g : ℕ) → Gap K a (Some g) → a.least ≤ g
gap_least K a g (first p q x s l m e k) = l
gap_least K a g (unknown k) = omega arith

-- an order edge that keeps the rules
pub record IsEdge (K : Kernel) (e : OrderEdge) : Type 0 where
  pub from : e.from < size K
  pub to : e.to < size K
  pub near : e.distance ≤ most_order_distance
  pub forward : e.distance ≡ 0 → e.from < e.to

edge_kept : (K : Kernel) (a : Ask) (g : ℕ) → IsAsk K a → a.least ≤ g → IsEdge K (edge_for a g)
edge_kept K a g is l = record { from = is.source; to = is.target; near = omega arith; forward = λ z. is.forward (omega arith) }

edges_kept : (K : Kernel) (qs : List Ask) (es : List OrderEdge) → ((k : ℕ) (a : Ask) → slice_get qs k ≡ Some a → IsAsk K a) → Added K qs es → (k : ℕ) (e : OrderEdge) → slice_get es k ≡ Some e → IsEdge K e
edges_kept K [] [] ask none k e h = absurd (cc)
edges_kept K [] (x ∷ es) ask m k e h = elim m [ ]
edges_kept K (q ∷ qs) es ask (apart g rest) k e h = edges_kept K qs es (λ j. ask (suc j)) rest k e h
edges_kept K (q ∷ qs) es ask (chained n g c rest) k e h = edges_kept K qs es (λ j. ask (suc j)) rest k e h
edges_kept K (q ∷ qs) (x ∷ es) ask (added n g c rest) zero e h = let z : edge_for q n ≡ e = cc in subst (IsEdge K) z (edge_kept K q n (ask 0 q refl) (gap_least K q n g))
edges_kept K (q ∷ qs) (x ∷ es) ask (added n g c rest) (suc k) e h = edges_kept K qs es (λ j. ask (suc j)) rest k e h

pub kernel_valid : (K : Kernel) (es : List OrderEdge) → IsKernel K → AreNeeded K es → length K.order + length es ≤ most_order_edges → IsKernel (with_order K es)
kernel_valid K es good made few =
    let added_kept : (k : ℕ) (e : OrderEdge) → slice_get es k ≡ Some e → IsEdge K e = edges_kept K (asks K) es (λ k a h. ask_in K a (k, h)) made in
    record {
      few = good.few;
      named = record { names = good.named.names; apart = good.named.apart };
      wired = record { sources = good.wired.sources; forward = good.wired.forward; constants = good.wired.constants };
      order =
          record {
            few = omega (arith, length-append K.order es);
            known = λ k u v d h. ⊎_elim (λ i. good.order.known i.0 u v d i.1) (λ i. let e = added_kept i.0 _ i.1 in (e.from, e.to)) (in_append_cases K.order es k _ h);
            forward = λ k u v h. ⊎_elim (λ i. good.order.forward i.0 u v i.1) (λ i. let e = added_kept i.0 _ i.1 in e.forward refl) (in_append_cases K.order es k _ h);
            near = λ k u v d h. ⊎_elim (λ i. good.order.near i.0 u v d i.1) (λ i. let e = added_kept i.0 _ i.1 in e.near) (in_append_cases K.order es k _ h);
          };
      arities = good.arities;
      valued = good.valued;
      near = good.near;
      inits = good.inits;
      init_words = good.init_words;
      one_constant = good.one_constant;
      ports = good.ports;
      no_ports = good.no_ports;
      one_output = good.one_output;
    }
