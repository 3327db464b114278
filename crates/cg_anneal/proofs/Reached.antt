-- How the walk goes on, and ends.
use Rattle.std.proofs.Common.{◌≡◌, ℕ, suc, ◌+◌, ◌<◌, List, inl, sym, ap, ◌∙◌, subst, arith}
use Rattle.rand_pcg.specs.Lcg.{Lcg}
use Rattle.cg_model.specs.Kernel.{Kernel}
use Rattle.cg_model.specs.Array.{Arch}
use Rattle.cg_walk_spec.specs.State.{State, cost}
use Rattle.cg_walk_spec.specs.Words.{after_words}
use Rattle.cg_walk_spec.specs.Walk.{all_edges, unrouted_start, IsRouted, IsStart, IsMove, Walked, start, more, IsEnd}
use Rattle.cg_anneal.specs.declared.finding.Found.{Found}
use Rattle.cg_anneal.specs.declared.finding.Found.TheVariants.{Mapped, Spent}
use Rattle.cg_anneal.specs.Walking.{Walking, IsRoutedBy, at_state}
use Rattle.cg_anneal.specs.Steps.{IsStep}
use Rattle.cg_anneal.specs.Ended.{IsFoundAt, IsWalkedFrom}

module _ (A : Arch) (K : Kernel) (ii : ℕ) (early : List ℕ) where
  abbrev pub walking : State → Walking
  walking S = record { arch = A; kernel = K; ii = ii; early = early; state = S }

  pub starts : (V U : Walking) → V ≡ walking (unrouted_start A K ii early) → IsRoutedBy (all_edges V.kernel) V U →
      (U ≡ walking U.state) × IsStart A K ii early U.state
  starts V U hv by = (
    by.same ∙ ap (λ (X : Walking). at_state X U.state) hv,
    subst (λ (X : Walking). IsRouted X.arch X.kernel X.ii (all_edges X.kernel) X.state U.state) hv by.routed,
  )

  pub goes_on : (moves seed k : ℕ) (g h : Lcg) (V U : Walking) → V ≡ walking V.state → Walked A K ii early moves seed k g V.state → k < moves → 0 < cost A K ii V.state → IsStep V moves k g U → h ≡ after_words 4 g →
      (U ≡ walking U.state) × Walked A K ii early moves seed (k + 1) h U.state
  goes_on moves seed k g h V U same walked l some step hg =
      let move = subst (λ (X : Walking). IsMove X.arch X.kernel X.ii X.early moves k g V.state U.state) same step.move in
      let z : suc k ≡ k + 1 = omega arith in (
        step.same ∙ ap (λ (X : Walking). at_state X U.state) same,
        subst (λ x. Walked A K ii early moves seed (k + 1) x U.state) (sym hg) (subst (λ n. Walked A K ii early moves seed n (after_words 4 g) U.state) z (more walked l some move)),
      )

  pub ends_found : (moves seed k : ℕ) (g : Lcg) (S : State) (found : Found) → Walked A K ii early moves seed k g S → cost A K ii S ≡ 0 → IsFoundAt A K ii S k found → IsWalkedFrom A K ii early seed moves found
  ends_found moves seed k g S (Mapped m j) walked zero h = (g, S, subst (λ n. IsEnd A K ii early moves seed n g S) (sym h.1) (walked, inl zero), zero, h.0)
  ends_found moves seed k g S (Spent c) walked zero h = absurd h
