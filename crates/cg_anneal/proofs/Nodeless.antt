-- A kernel without nodes costs nothing.
use Rattle.std.proofs.Common.{◌≡◌, ℕ, ◌*◌, ◌<◌, ◌≤◌, List, [], ◌∷◌, length, Some, refl, ap, ◌∙◌, arith, ⊎_elim}
use Rattle.std.specs.Prelude.{slice_get, count_by}
use Rattle.std.specs.List.{range_with_len}
use Rattle.std.proofs.lemmas.Bool.{cases_lt}
use Rattle.cg_model.specs.declared.kernel.OrderEdge.{OrderEdge}
use Rattle.cg_model.specs.Kernel.{Kernel, IsKernel, size}
use Rattle.cg_model.specs.Array.{Arch}
use Rattle.cg_congestion.proofs.Plain.{excess_le}
use Rattle.cg_place.specs.Counts.{excess_at, excess_on, unit_excess, is_broken}
use Rattle.cg_walk_spec.specs.State.{State, edges_from, edges, is_missing, missing, positions_of_all, state_positions, cost}
use Rattle.cg_walk_spec.specs.Good.{IsGood}
use Rattle.cg_model.proofs.Ranges.{sum_zero}

nil_of : {X : Type 0} (xs : List X) → length xs ≡ 0 → xs ≡ []
nil_of [] h = refl
nil_of (x ∷ xs) h = absurd (omega (arith, h))

excess_none : (ii x : ℕ) → excess_on ii [] x ≡ 0
excess_none ii x = sum_zero (excess_at ii [] x) (range_with_len 0 ii) (λ s. refl)

order_none : (os : List OrderEdge) → ((e u v d : ℕ) → slice_get os e ≡ Some (record { from = u; to = v; distance = d }) → ⊥) → os ≡ []
order_none [] h = refl
order_none (o ∷ os) h = absurd (h 0 o.from o.to o.distance refl)

edges_none : (K : Kernel) → K.nodes ≡ [] → edges K ≡ []
unfolding edges
edges_none K h = ap (λ ns. edges_from 0 ns) h

positions_none : (A : Arch) (K : Kernel) (ii : ℕ) (S : State) → edges K ≡ [] → state_positions A K ii S ≡ []
unfolding state_positions
positions_none A K ii S h = ap (λ es. positions_of_all A ii S.places es S.routes) h

module _ (A : Arch) (K : Kernel) (ii : ℕ) (S : State) (kernel : IsKernel K) (good : IsGood A K ii S) where
  no_cost : size K ≡ 0 → cost A K ii S ≡ 0
  unfolding cost
  no_cost none =
      let es = edges_none K (nil_of K.nodes none) in
      let rs = nil_of S.routes (good.routes ∙ ap (λ xs. length xs) es) in
      let ps = nil_of S.places (good.places ∙ none) in
      let os = order_none K.order (λ e u v d h. let l = (kernel.order.known e u v d h).0 in omega (arith, l, none)) in
      let m : missing S ≡ 0 = ap (λ xs. count_by is_missing xs) rs in
      let o = ap (λ xs. count_by (is_broken ii S.places) xs) os in
      let u : unit_excess A ii S.places ≡ 0 = ap (λ xs. unit_excess A ii xs) ps ∙ sum_zero (excess_on ii []) (range_with_len 0 (length A.units)) (excess_none ii) in
      let e = excess_le ii (length A.resources * ii) (state_positions A K ii S) in
      let long = ap (λ xs. length xs) (positions_none A K ii S es) in
      omega (arith, m, o, u, e, long)

  pub some_nodes : 0 < cost A K ii S → 0 < size K
  some_nodes some =
      ⊎_elim (λ (l : 0 < size K). l) (λ (l : size K ≤ 0). let z = no_cost (omega (arith, l)) in absurd (omega (arith, z, some))) (cases_lt 0 (size K))
