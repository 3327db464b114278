-- How far histories have grown.
use Rattle.std.proofs.Common.{◌≡◌, ℕ, suc, ◌+◌, ◌*◌, ◌%◌, ◌<◌, ◌≤◌, Bool, true, false, cond, ltb, eqb, List, [], ◌∷◌, length, get_or, sym, ap, ◌∙◌, subst, arith, ⊎_elim}
use Rattle.std.specs.Prelude.{All, slice_index, if◌then◌else◌}
use Rattle.std.specs.List.{range_with_len}
use Rattle.std.proofs.lemmas.Bool.{cases_lt}
use Rattle.std.proofs.lemmas.List.{get_or_past}
use Rattle.std.proofs.lemmas.List.Elements.{All-get_or, All-from_get_or, All-map, All-replicate, All-weaker}
use Rattle.rand_pcg.specs.Lcg.{Lcg}
use Rattle.cg_model.specs.Kernel.{Kernel}
use Rattle.cg_model.specs.Array.{Arch}
use Rattle.cg_mrrg.specs.Nodes.{node_at}
use Rattle.cg_congestion.specs.Claims.{claims_at}
use Rattle.cg_congestion.specs.Table.{Table, size, aged}
use Rattle.cg_walk_spec.specs.State.{State, table_of_state}
use Rattle.cg_walk_spec.specs.Walk.{all_edges, with_route, IsRouted, touching, moved_by, unrouted_start, proposal, aged_state, rested, Walked, start, more}
use Rattle.cg_walk_spec.proofs.Uses.{unrouted_history}

at_most : (h : List ℕ) (m i : ℕ) → All (λ x. x ≤ m) h → slice_index h i ≤ m
at_most h m i all =
    ⊎_elim (λ (l : i < length h). All-get_or (λ x. x ≤ m) h i 0 l all) (λ (l : length h ≤ i). let z = get_or_past h i 0 l in omega (arith, z)) (cases_lt i (length h))

one_at_most : (b : Bool) → cond b 1 0 ≤ 1
one_at_most true = omega arith
one_at_most false = omega arith

-- they grow by one at most
pub aged_small : (T : Table) (m : ℕ) → All (λ x. x ≤ m) T.history → All (λ x. x ≤ suc m) (aged T)
aged_small T m all =
    All-map (λ x. x ≤ suc m) (λ k. slice_index T.history k + cond (ltb 1 (claims_at T.interval T.positions (node_at T.interval k))) 1 0) (range_with_len 0 (size T))
    (All-from_get_or (λ k. slice_index T.history k + cond (ltb 1 (claims_at T.interval T.positions (node_at T.interval k))) 1 0 ≤ suc m) (range_with_len 0 (size T)) 0
    (λ i l.
    let k = get_or (range_with_len 0 (size T)) i 0 in
    let a = at_most T.history m k all in
    let b = one_at_most (ltb 1 (claims_at T.interval T.positions (node_at T.interval k))) in
    omega (arith, a, b)))

-- routing, and a move that is tried, leave them
pub routed_history : (A : Arch) (K : Kernel) (ii : ℕ) (is : List ℕ) (S after : State) → IsRouted A K ii is S after → after.history ≡ S.history
routed_history A K ii [] S after h = ap (λ (x : State). x.history) (sym h)
routed_history A K ii (i ∷ is) S after h = routed_history A K ii is (with_route S i h.0) after h.2

either : (b : Bool) (S T : State) (m : ℕ) → All (λ x. x ≤ m) S.history → All (λ x. x ≤ m) T.history → All (λ x. x ≤ m) (if b then S else T).history
either true S T m s t = s
either false S T m s t = t

module _ (A : Arch) (K : Kernel) (ii : ℕ) (early : List ℕ) (moves seed : ℕ) where
  rested_small : (k m : ℕ) (S : State) → All (λ x. x ≤ m) S.history → All (λ x. x ≤ suc m) (rested A K ii k S).history
  rested_small k m S all =
      either (eqb ((k + 1) % 64) 0) (aged_state A K ii S) S (suc m) (aged_small (table_of_state A K ii S) m all)
      (All-weaker (λ x. x ≤ m) (λ x. x ≤ suc m) (λ x l. omega arith) S.history all)

  pub histories_small : {k : ℕ} {g : Lcg} {S : State} → Walked A K ii early moves seed k g S → All (λ x. x ≤ k) S.history
  histories_small (start {S = S} h) =
      subst (λ xs. All (λ x. x ≤ 0) xs) (sym (routed_history A K ii (all_edges K) (unrouted_start A K ii early) S h)) (All-replicate (λ x. x ≤ 0) (length A.resources * ii) 0 (omega arith))
  histories_small (more {k = k} {g = g} {S = S} {after = T} w l c m) =
      let before = histories_small w in
      let p = proposal A K ii early g in
      let same : (m.0).history ≡ S.history = routed_history A K ii (touching K p.node) (moved_by K p S) m.0 m.1 ∙ unrouted_history (touching K p.node) S in
      let tried : All (λ x. x ≤ k) (m.0).history = subst (λ xs. All (λ x. x ≤ k) xs) (sym same) before in
      subst (λ (x : State). All (λ y. y ≤ suc k) x.history) (sym m.2) (rested_small k k _ (either _ m.0 S k tried before))
