-- A walk that can begin goes on to an end.
use Rattle.std.proofs.Common.{ℕ, zero, suc, ◌<◌, ◌≤◌, List, [], ◌∷◌, length, Option, inl, inr, refl, arith, ⊎_elim}
use Rattle.std.specs.Prelude.{◌⊎◌, All, if◌then◌else◌}
use Rattle.std.proofs.lemmas.Bool.{cases_lt}
use Rattle.std.proofs.lemmas.List.Elements.{All-head, All-tail}
use Rattle.rand_pcg.specs.Lcg.{Lcg}
use Rattle.cg_model.specs.Kernel.{Kernel, IsKernel}
use Rattle.cg_model.specs.Array.{Arch, IsArch}
use Rattle.cg_route.proofs.Exists.{below_all, found_or_none}
use Rattle.cg_walk_spec.specs.State.{State, edges, ends_of, table_of_state, cost}
use Rattle.cg_walk_spec.specs.Words.{generator, after_words, word}
use Rattle.cg_walk_spec.specs.Walk.{edge, all_edges, with_route, IsFoundFor, IsRouted, unrouted_start, IsStart, touching, moved_by, proposal, IsTried, is_taken, rested, IsMove, Walked, start, more, IsEnd}
use Rattle.cg_walk_spec.specs.Good.{IsReady, IsGood}
use Rattle.cg_walk_spec.specs.Ranges.{most_steps}
use Rattle.cg_walk_spec.proofs.Small.{ends_in_range, path_within, path_short}
use Rattle.cg_walk_spec.proofs.Uses.{all_known, touching_known}
use Rattle.cg_walk_spec.proofs.Drawn.{proposal_may}
use Rattle.cg_walk_spec.proofs.Keeps.{with_route_good, found_fits, moved_good, start_good, walked_good}

-- ---- routing

module _ (A : Arch) (K : Kernel) (ii : ℕ) (arch : IsArch A) (kernel : IsKernel K) where
  -- something is found for each edge operand, a path or none
  pub found_for : (S : State) (i : ℕ) → IsGood A K ii S → i < length (edges K) → (found : Option (List ℕ)) × IsFoundFor A K ii S i found
  found_for S i good l =
      let ends = ends_of A ii S.places (edge K i) in
      let fits = ends_in_range A K ii S arch kernel good i l in
      found_or_none (table_of_state A K ii S) (edge K i).source ends most_steps (length A.resources)
      (λ path h. (path_short A arch ends path fits h, below_all (length A.resources) path (path_within A arch ends path fits.from h)))

  -- so edge operands are routed one after another
  pub routed : (is : List ℕ) (S : State) → All (λ i. i < length (edges K)) is → IsGood A K ii S → (after : State) × IsRouted A K ii is S after
  routed [] S all good = (S, refl)
  routed (i ∷ is) S all good =
      let l = All-head (λ j. j < length (edges K)) i is all in
      let f = found_for S i good l in
      let rest = routed is (with_route S i f.0) (All-tail (λ j. j < length (edges K)) i is all) (with_route_good A K ii S i f.0 l (found_fits A K ii S i f.0 f.1) good) in
      (rest.0, (f.0, f.1, rest.1))

  module _ (early : List ℕ) (ready : IsReady A K ii early) where
    -- the walk begins
    pub begins : (S : State) × IsStart A K ii early S
    begins = routed (all_edges K) (unrouted_start A K ii early) (all_known K) (start_good A K ii early ready)

    -- each move can be tried, and so made
    pub tried : (g : Lcg) (S : State) → IsGood A K ii S → (after : State) × IsTried A K ii (proposal A K ii early g) S after
    tried g S good =
        let p = proposal A K ii early g in
        routed (touching K p.node) (moved_by K p S) (touching_known K p.node) (moved_good A K ii S p (proposal_may A K ii early ready g) good)

    pub makes : (moves k : ℕ) (g : Lcg) (S : State) → IsGood A K ii S → (after : State) × IsMove A K ii early moves k g S after
    makes moves k g S good =
        let t = tried g S good in
        (rested A K ii k (if is_taken moves k (cost A K ii S) (cost A K ii t.0) (word 3 g) then t.0 else S), (t.0, t.1, refl))

    -- ---- the walk

    module _ (moves seed : ℕ) where
      abbrev Ended : Type 0
      Ended = (k : ℕ) × (g : Lcg) × (S : State) × IsEnd A K ii early moves seed k g S

      abbrev Came : ℕ → Type 0
      Came k = (g : Lcg) × (S : State) × Walked A K ii early moves seed k g S

      -- a move further, or an end
      further : (k : ℕ) → k < moves → Came k → Ended ⊎ Came (suc k)
      further k l (g, S, w) =
          ⊎_elim
          (λ (some : 0 < cost A K ii S). let m = makes moves k g S (walked_good A K ii early ready moves seed w) in inr (after_words 4 g, m.0, more w l some m.1))
          (λ (none : cost A K ii S ≤ 0). inl (k, g, S, (w, inl (omega (arith, none)))))
          (cases_lt 0 (cost A K ii S))

      comes : (k : ℕ) → k ≤ moves → Ended ⊎ Came k
      comes zero l = let b = begins in inr (generator seed ii, b.0, start b.1)
      comes (suc k) l = ⊎_elim (λ e. inl e) (λ c. further k (omega (arith, l)) c) (comes k (omega (arith, l)))

      pub ended : (k : ℕ) × (g : Lcg) × (S : State) × IsEnd A K ii early moves seed k g S
      ended = ⊎_elim (λ e. e) (λ (c : Came moves). (moves, c.0, c.1, (c.2, inr refl))) (comes moves (omega arith))
