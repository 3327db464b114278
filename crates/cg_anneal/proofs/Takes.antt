-- Routes taken out in order.
use Rattle.std.proofs.Common.{◌≡◌, ℕ, zero, suc, ◌+◌, ◌<◌, List, [], ◌∷◌, ◌++◌, length, get_or, take, Option, Some, None, refl, sym, ap, ◌∙◌, subst, arith}
use Rattle.std.proofs.lemmas.List.FromFn.{length-range_with_len, get_or-range_with_len}
use Rattle.cg_walk_spec.specs.declared.edge.EdgeOperand.{EdgeOperand}
use Rattle.cg_walk_spec.specs.State.{edges, routes_by}
use Rattle.cg_walk_spec.specs.Walk.{all_edges, with_route, unrouted}
use Rattle.cg_walk_spec.proofs.Pending.{all_rising}
use Rattle.cg_anneal.specs.Walking.{Walking, at_state}
use Rattle.cg_anneal.specs.Steps.{route_of}
use Rattle.cg_anneal.proofs.Loops.{taken_more, route_taken}

module _ (W V : Walking) (k : ℕ) (l : k < length (edges W.kernel)) (a : V ≡ at_state W (unrouted (take k (all_edges W.kernel)) W.state)) where
  number : get_or (all_edges W.kernel) k 0 ≡ k
  number = let z : 0 + k ≡ k = omega arith in get_or-range_with_len 0 (length (edges W.kernel)) k 0 l ∙ z

  within : k < length (all_edges W.kernel)
  within = let long = length-range_with_len 0 (length (edges W.kernel)) in omega (arith, long, l)

  pub taken_next : (U : Walking) → U ≡ at_state V (with_route V.state k None) → U ≡ at_state W (unrouted (take (k + 1) (all_edges W.kernel)) W.state)
  taken_next U b = taken_more W V U (all_edges W.kernel) k within a (b ∙ ap (λ j. at_state V (with_route V.state j None)) (sym number))

  pub route_next : get_or V.state.routes k None ≡ get_or W.state.routes k None
  route_next = subst (λ j. get_or V.state.routes j None ≡ get_or W.state.routes j None) number (route_taken W V (all_edges W.kernel) k within (all_rising W.kernel) a)

pub routes_by_more : (es : List EdgeOperand) (rs : List (Option (List ℕ))) (k : ℕ) (d : EdgeOperand) → k < length es → length rs ≡ length es →
    routes_by (take (k + 1) es) (take (k + 1) rs) ≡ routes_by (take k es) (take k rs) ++ route_of (get_or es k d) (get_or rs k None)
routes_by_more [] rs k d l h = absurd (omega arith)
routes_by_more (e ∷ es) [] k d l h = absurd (omega (arith, h))
routes_by_more (e ∷ es) (None ∷ rs) zero d l h = refl
routes_by_more (e ∷ es) (Some p ∷ rs) zero d l h = refl
routes_by_more (e ∷ es) (None ∷ rs) (suc k) d l h =
    let z : suc k + 1 ≡ suc (k + 1) = omega arith in
    ap (λ n. routes_by (take n (e ∷ es)) (take n (None ∷ rs))) z ∙ routes_by_more es rs k d (omega arith) (omega (arith, h))
routes_by_more (e ∷ es) (Some p ∷ rs) (suc k) d l h =
    let z : suc k + 1 ≡ suc (k + 1) = omega arith in
    ap (λ n. routes_by (take n (e ∷ es)) (take n (Some p ∷ rs))) z ∙ ap (λ xs. record { node = e.node; arg = e.arg; path = p } ∷ xs) (routes_by_more es rs k d (omega arith) (omega (arith, h)))
