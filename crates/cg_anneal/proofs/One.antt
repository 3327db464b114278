-- How the walk ends is determined.
use Rattle.std.proofs.Common.{◌≡◌, ℕ, ◌<◌, ◌≤◌, List, get_or, refl, sym, ap, ◌∙◌, subst, arith}
use Rattle.std.proofs.lemmas.List.{ext_get_or}
use Rattle.rand_pcg.specs.Lcg.{Lcg}
use Rattle.cg_model.specs.Kernel.{Kernel, size}
use Rattle.cg_model.specs.Array.{Arch}
use Rattle.cg_model.specs.Mapping.{IsLegal}
use Rattle.cg_recur.specs.Edges.{edge_of}
use Rattle.cg_recur.specs.Recurrences.{AreEarliest}
use Rattle.cg_recur.proofs.Chains.{one_early}
use Rattle.cg_check.specs.Legal as checks
use Rattle.cg_walk_spec.specs.State.{State, cost, mapping_of}
use Rattle.cg_walk_spec.specs.Walk.{Walked, start, more}
use Rattle.cg_walk_spec.proofs.Once.{end_once}
use Rattle.cg_walk_spec.proofs.Keeps.{walked_good}
use Rattle.cg_walk_spec.proofs.Rules.{legal_at_zero}
use Rattle.cg_anneal.specs.declared.finding.Found.{Found}
use Rattle.cg_anneal.specs.declared.finding.Found.TheVariants.{Mapped, Spent}
use Rattle.cg_anneal.specs.Ended.{IsWalkedFrom, IsWalked}
use Rattle.cg_anneal.proofs.Ready.{ready}
use Rattle.cg_place.specs.Posed.{Posed, IsTask}

pub one_time : (A : Arch) (K : Kernel) (ii : ℕ) (early other : List ℕ) → AreEarliest A K ii early → AreEarliest A K ii other → early ≡ other
one_time A K ii early other a b =
    let each = a.each in
    ext_get_or 0 early other (a.each ∙ sym b.each) (λ v l.
    let known : v < size K = omega (arith, l, each) in
    let p = one_early (edge_of A K) ii v (get_or early v 0) (get_or other v 0) (a.right v known) (b.right v known) in
    let q = one_early (edge_of A K) ii v (get_or other v 0) (get_or early v 0) (b.right v known) (a.right v known) in
    omega (arith, p, q))

module _ (A : Arch) (K : Kernel) (ii : ℕ) (early : List ℕ) (seed moves : ℕ) where
  one_from : (f g : Found) → IsWalkedFrom A K ii early seed moves f → IsWalkedFrom A K ii early seed moves g → f ≡ g
  one_from (Mapped m k) (Mapped n l) (g, S, a, z, e) (h, T, b, y, d) =
      let (p, q, r) = end_once A K ii early moves seed k l g h S T a b in
      let same : m ≡ n = e ∙ ap (λ (X : State). record { arch = A; kernel = K; mapping = mapping_of K ii X }) r ∙ sym d in
      ap (λ x. Mapped x k) same ∙ ap (λ j. Mapped n j) p
  one_from (Mapped m k) (Spent c) (g, S, a, z, e) (h, T, b, y, d) =
      let (p, q, r) = end_once A K ii early moves seed k moves g h S T a b in
      let s = ap (λ (X : State). cost A K ii X) r in
      absurd (omega (arith, z, y, d, s))
  one_from (Spent c) (Mapped n l) (g, S, a, z, e) (h, T, b, y, d) =
      let (p, q, r) = end_once A K ii early moves seed moves l g h S T a b in
      let s = ap (λ (X : State). cost A K ii X) r in
      absurd (omega (arith, z, y, e, s))
  one_from (Spent c) (Spent o) (g, S, a, z, e) (h, T, b, y, d) =
      let (p, q, r) = end_once A K ii early moves seed moves moves g h S T a b in
      ap (λ x. Spent x) (sym z ∙ ap (λ (X : State). cost A K ii X) r ∙ y)

  pub walked_few : {k : ℕ} {g : Lcg} {S : State} → Walked A K ii early moves seed k g S → k ≤ moves
  walked_few (start a) = omega arith
  walked_few (more {k = k} w l c m) = omega (arith, l)

pub one_answer : (A : Arch) (K : Kernel) (ii seed moves : ℕ) (f g : Found) → IsWalked A K ii seed moves f → IsWalked A K ii seed moves g → f ≡ g
one_answer A K ii seed moves f g (early, a, w) (other, b, v) =
    one_from A K ii early seed moves f g w (subst (λ es. IsWalkedFrom A K ii es seed moves g) (sym (one_time A K ii early other a b)) v)

interval_of : (K : Kernel) (ii : ℕ) (S : State) → (mapping_of K ii S).ii ≡ ii
unfolding mapping_of
interval_of K ii S = refl

pub legal_end : (T : Posed) (seed moves k : ℕ) (m : checks.Mapped) → IsTask T → IsWalked T.arch T.kernel T.ii seed moves (Mapped m k) →
    (m.arch ≡ T.arch) × (m.kernel ≡ T.kernel) × (m.mapping.ii ≡ T.ii) × IsLegal T.arch T.kernel m.mapping × (k ≤ moves)
legal_end T seed moves k m t (early, times, (g, S, end, zero, e)) =
    let A = T.arch in
    let K = T.kernel in
    let now : IsTask (record { arch = A; kernel = K; ii = T.ii; early = early }) = record { arch = t.arch; kernel = t.kernel; some = t.some; contexts = t.contexts; offered = t.offered; free = t.free; times = times } in
    let good = walked_good A K T.ii early (ready (record { arch = A; kernel = K; ii = T.ii; early = early }) now) moves seed end.0 in
    let legal = legal_at_zero A K T.ii S t.arch t.kernel good zero in (
      ap (λ (x : checks.Mapped). x.arch) e,
      ap (λ (x : checks.Mapped). x.kernel) e,
      ap (λ (x : checks.Mapped). x.mapping.ii) e ∙ interval_of K T.ii S,
      subst (λ (x : checks.Mapped). IsLegal A K x.mapping) (sym e) legal,
      walked_few A K T.ii early seed moves end.0,
    )
