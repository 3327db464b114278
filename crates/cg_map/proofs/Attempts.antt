-- What is tried at an interval comes to one end, and what is left at intervals.
use Rattle.std.proofs.Common.{◌≡◌, ℕ, zero, suc, ◌+◌, ◌<◌, ◌≤◌, List, [], ◌∷◌, ◌++◌, length, refl, sym, ap, ◌∙◌, subst, arith, ⊎_elim}
use Rattle.std.specs.Prelude.{slice_index}
use Rattle.cg_model.specs.Kernel.{Kernel, IsKernel}
use Rattle.cg_model.specs.Array.{Arch, IsArch}
use Rattle.cg_model.specs.Mapping.{IsLegal}
use Rattle.cg_check.specs.Legal.{Mapped as MappedValue}
use Rattle.cg_bound.specs.Bound.{IsOpen}
use Rattle.cg_recur.proofs.Latencies.{latency_small}
use Rattle.cg_recur.proofs.Earliest.{earliest}
use Rattle.cg_place.specs.Posed.{IsTask}
use Rattle.cg_anneal.specs.declared.finding.Found.{Found}
use Rattle.cg_anneal.specs.declared.finding.Found.TheVariants as found
use Rattle.cg_anneal.specs.Ended.{IsWalked}
use Rattle.cg_hub.specs.Hub.{HubEnough, hub_map}
use Rattle.cg_hub.proofs.Legal.{hub_legal}
use Rattle.cg_hub.proofs.Hubs.{enough_or_not}
use Rattle.cg_intervals.specs.declared.answering.FoundBy.{FoundBy}
use Rattle.cg_intervals.specs.declared.answering.FoundBy.TheVariants.{Hub, Moves}
use Rattle.cg_map.specs.declared.trying.Attempt.{Attempt}
use Rattle.cg_map.specs.declared.trying.Attempt.TheVariants.{Mapped, Left}
use Rattle.cg_map.specs.Tried.{IsAttempt, AreLeft}
use Rattle.cg_anneal.proofs.Always.{some_found}
use Rattle.cg_anneal.proofs.One.{one_answer, legal_end}
use Rattle.cg_intervals.proofs.Intervals.{offered}

module _ (A : Arch) (K : Kernel) (seed moves : ℕ) where
  -- a cost more
  pub left_more : (ii : ℕ) (costs : List ℕ) (c : ℕ) → AreLeft A K seed moves ii costs → IsAttempt A K seed moves (ii + length costs) (Left c) → AreLeft A K seed moves ii (costs ++ c ∷ [])
  left_more ii [] c p q = let e : ii + 0 ≡ ii = omega arith in (subst (λ z. IsAttempt A K seed moves z (Left c)) e q, tt)
  left_more ii (d ∷ ds) c p q =
      let e : ii + suc (length ds) ≡ ii + 1 + length ds = omega arith in
      (p.0, left_more (ii + 1) ds c p.1 (subst (λ z. IsAttempt A K seed moves z (Left c)) e q))

module _ (A : Arch) (K : Kernel) (arch : IsArch A) (kernel : IsKernel K) (seed moves : ℕ) where
  pub one_attempt : (ii : ℕ) (a b : Attempt) → IsAttempt A K seed moves ii a → IsAttempt A K seed moves ii b → a ≡ b
  one_attempt ii (Mapped m Hub) (Mapped n Hub) p q = let e : m ≡ n = p.1 ∙ sym q.1 in cc
  one_attempt ii (Mapped m Hub) (Mapped n (Moves l)) p q = absurd (q.0 p.0)
  one_attempt ii (Mapped m Hub) (Left d) p q = absurd (q.0 p.0)
  one_attempt ii (Mapped m (Moves k)) (Mapped n Hub) p q = absurd (p.0 q.0)
  one_attempt ii (Left c) (Mapped n Hub) p q = absurd (p.0 q.0)
  one_attempt ii (Mapped m (Moves k)) (Mapped n (Moves l)) p q = let e = one_answer A K ii seed moves (found.Mapped m k) (found.Mapped n l) p.1 q.1 in cc
  one_attempt ii (Mapped m (Moves k)) (Left d) p q = absurd (let e = one_answer A K ii seed moves (found.Mapped m k) (found.Spent d) p.1 q.1 in cc)
  one_attempt ii (Left c) (Mapped n (Moves l)) p q = absurd (let e = one_answer A K ii seed moves (found.Spent c) (found.Mapped n l) p.1 q.1 in cc)
  one_attempt ii (Left c) (Left d) p q = let e = one_answer A K ii seed moves (found.Spent c) (found.Spent d) p.1 q.1 in cc

  -- a mapping and a cost aren't both what comes of an interval
  pub not_left : (ii : ℕ) (m : MappedValue) (way : FoundBy) (cost : ℕ) → IsAttempt A K seed moves ii (Mapped m way) → IsAttempt A K seed moves ii (Left cost) → ⊥
  not_left ii m way cost p q = let e = one_attempt ii (Mapped m way) (Left cost) p q in cc

  pub one_mapped : (ii : ℕ) (m n : MappedValue) (way by : FoundBy) → IsAttempt A K seed moves ii (Mapped m way) → IsAttempt A K seed moves ii (Mapped n by) → (m ≡ n) × (way ≡ by)
  one_mapped ii m n way by p q = let e = one_attempt ii (Mapped m way) (Mapped n by) p q in (cc, cc)

  pub one_left : (ii c d : ℕ) → IsAttempt A K seed moves ii (Left c) → IsAttempt A K seed moves ii (Left d) → c ≡ d
  one_left ii c d p q = let e = one_attempt ii (Left c) (Left d) p q in cc

  -- an open interval has a task
  some_task : (ii : ℕ) → 0 < ii → ii ≤ A.contexts → IsOpen A K ii → (early : List ℕ) × IsTask (record { arch = A; kernel = K; ii = ii; early = early })
  some_task ii some few free =
      let (early, each, right) = earliest A K (λ op. latency_small A op arch) kernel ii free.no_recurrence in
      (early, record { arch = arch; kernel = kernel; some = some; contexts = few; offered = offered A K ii free; free = free.no_recurrence; times = record { each = each; right = right } })

  -- the mapping of an open interval is legal
  pub legal_attempt : (ii : ℕ) (m : MappedValue) (way : FoundBy) → 0 < ii → ii ≤ A.contexts → IsOpen A K ii → IsAttempt A K seed moves ii (Mapped m way)
      → (m.arch ≡ A) × (m.kernel ≡ K) × IsLegal A K m.mapping
  legal_attempt ii m Hub some few free p =
      let e = p.1 in
      (ap (λ z. z.arch) e, ap (λ z. z.kernel) e, subst (IsLegal A K) (sym (ap (λ z. z.mapping) e)) (hub_legal A K ii arch kernel p.0))
  legal_attempt ii m (Moves k) some few free p =
      let (early, posed) = some_task ii some few free in
      let (a, b, c, ok, d) = legal_end (record { arch = A; kernel = K; ii = ii; early = early }) seed moves k m posed p.1 in
      (a, b, ok)

  attempt_of : (ii : ℕ) (f : Found) → (HubEnough A K ii → ⊥) → IsWalked A K ii seed moves f → (a : Attempt) × IsAttempt A K seed moves ii a
  attempt_of ii (found.Mapped m k) none w = (Mapped m (Moves k), (none, w))
  attempt_of ii (found.Spent c) none w = (Left c, (none, w))

  -- something comes of each open interval
  pub some_attempt : (ii : ℕ) → 0 < ii → ii ≤ A.contexts → IsOpen A K ii → (a : Attempt) × IsAttempt A K seed moves ii a
  some_attempt ii some few free =
      ⊎_elim
      (λ enough. (Mapped (record { arch = A; kernel = K; mapping = hub_map A K ii }) Hub, (enough, refl)))
      (λ none.
      let (early, posed) = some_task ii some few free in
      let (f, w) = some_found (record { arch = A; kernel = K; ii = ii; early = early }) seed moves posed in
      attempt_of ii f none w)
      (enough_or_not A K ii)

  -- ---- what is left at intervals

  pub left_at : (ii : ℕ) (costs : List ℕ) (n : ℕ) → AreLeft A K seed moves ii costs → n < length costs → IsAttempt A K seed moves (ii + n) (Left (slice_index costs n))
  left_at ii [] n p l = absurd (omega arith)
  left_at ii (c ∷ cs) zero p l = let e : ii ≡ ii + 0 = omega arith in subst (λ z. IsAttempt A K seed moves z (Left c)) e p.0
  left_at ii (c ∷ cs) (suc n) p l =
      let e : ii + 1 + n ≡ ii + suc n = omega arith in
      subst (λ z. IsAttempt A K seed moves z (Left (slice_index cs n))) e (left_at (ii + 1) cs n p.1 (omega (arith, l)))

  -- the costs of as many intervals are the same
  pub one_costs : (ii : ℕ) (cs ds : List ℕ) → length cs ≡ length ds → AreLeft A K seed moves ii cs → AreLeft A K seed moves ii ds → cs ≡ ds
  one_costs ii [] [] e p q = refl
  one_costs ii [] (d ∷ ds) e p q = absurd (omega (arith, e))
  one_costs ii (c ∷ cs) [] e p q = absurd (omega (arith, e))
  one_costs ii (c ∷ cs) (d ∷ ds) e p q =
      let first : c ≡ d = one_left ii c d p.0 q.0 in
      let rest : cs ≡ ds = one_costs (ii + 1) cs ds (omega (arith, e)) p.1 q.1 in
      cc
