-- Some end of the walk of a task is there, by definitions alone.
use Rattle.std.proofs.Common.{◌≡◌, ℕ, ◌<◌, ◌≤◌, List, refl, subst, arith, ⊎_elim}
use Rattle.std.proofs.lemmas.Bool.{cases_lt}
use Rattle.rand_pcg.specs.Lcg.{Lcg}
use Rattle.cg_model.specs.Kernel.{Kernel}
use Rattle.cg_model.specs.Array.{Arch}
use Rattle.cg_check.specs.Legal.{Mapped as Triple}
use Rattle.cg_walk_spec.specs.State.{State, cost, mapping_of}
use Rattle.cg_walk_spec.specs.Walk.{IsEnd}
use Rattle.cg_walk_spec.proofs.Endings.{ended}
use Rattle.cg_anneal.specs.declared.finding.Found.{Found}
use Rattle.cg_anneal.specs.declared.finding.Found.TheVariants.{Mapped, Spent}
use Rattle.cg_anneal.specs.Ended.{IsWalkedFrom, IsWalked}
use Rattle.cg_anneal.proofs.Ready.{ready}
use Rattle.cg_place.specs.Posed.{Posed, IsTask}

module _ (A : Arch) (K : Kernel) (ii seed moves : ℕ) where
  -- what an end of the walk gives
  found_at : (early : List ℕ) (k : ℕ) (g : Lcg) (S : State) → IsEnd A K ii early moves seed k g S → (f : Found) × IsWalkedFrom A K ii early seed moves f
  found_at early k g S end =
      ⊎_elim
      (λ (some : 0 < cost A K ii S).
      ⊎_elim
      (λ (zero : cost A K ii S ≡ 0). absurd (omega (arith, some, zero)))
      (λ (all : k ≡ moves). (Spent (cost A K ii S), (g, S, subst (λ n. IsEnd A K ii early moves seed n g S) all end, refl, some)))
      end.1)
      (λ (none : cost A K ii S ≤ 0).
      let m : Triple = record { arch = A; kernel = K; mapping = mapping_of K ii S } in
      (Mapped m k, (g, S, end, omega (arith, none), refl)))
      (cases_lt 0 (cost A K ii S))

-- so the walk of a task has an end, which gives something
pub some_found : (T : Posed) (seed moves : ℕ) → IsTask T → (f : Found) × IsWalked T.arch T.kernel T.ii seed moves f
some_found T seed moves t =
    let (k, g, S, end) = ended T.arch T.kernel T.ii t.arch t.kernel T.early (ready T t) moves seed in
    let (f, walked) = found_at T.arch T.kernel T.ii seed moves T.early k g S end in
    (f, (T.early, t.times, walked))
