-- How often the array reaches outside is how often the turns do: each step counts once.
use Rattle.std.proofs.Common.{◌≡◌, ℕ, zero, suc, ◌+◌, ◌*◌, ◌/◌, ◌%◌, ◌<◌, length, Option, Some, None, refl, sym, ap, ◌∙◌, subst₂, arith, inl, inr}
use Rattle.std.specs.Prelude.{◌⊎◌}
use Rattle.std.proofs.lemmas.Nat.{mod_below}
use Rattle.cg_model.specs.Work.{Image, Work, missed}
use Rattle.cg_model.specs.Kernel.{Kernel, IsKernel, size}
use Rattle.cg_model.specs.Turns.{before, turns, work}
use Rattle.cg_model.specs.Order.{IsUnaliased}
use Rattle.cg_model.specs.Array.{Arch, IsArch}
use Rattle.cg_model.specs.Mapping.{Mapping, place, IsLegal}
use Rattle.cg_model.specs.Config.{Config}
use Rattle.cg_model.specs.Configured.{configuration_of}
use Rattle.cg_model.specs.Machine.{missed_after, missed_by_units, at_cycle, begins, machine, cycles}
use Rattle.cg_model.proofs.Lengths.{memory_stays}
use Rattle.cg_overlap.proofs.Single.{one_start}
use Rattle.cg_overlap.proofs.Sequence.{step_node, step_of, step_within, turn_below, positive_from}
use Rattle.cg_overlap.proofs.Starts.{started}
use Rattle.cg_overlap.proofs.Memory.{length-at_cycle}
use Rattle.cg_overlap.proofs.Induction.{begin, begin_at, right, begun_step}
use Rattle.cg_overlap.proofs.Ends.{within_run}
use Rattle.cg_overlap.proofs.Sums.{recounted}
use Rattle.cg_model.proofs.Sums.{total}

missed_turns : (K : Kernel) (image : Image) (k : ℕ) → (before K image k).outside ≡ total k (λ j. missed (length image.memory) (work K image j))
unfolding before
missed_turns K image zero = refl
missed_turns K image (suc k) = ap (λ z. z + missed (length (before K image k).memory) (work K image k)) (missed_turns K image k) ∙ ap (λ z. total k (λ j. missed (length image.memory) (work K image j)) + missed z (work K image k)) (memory_stays K image k)

missed_units : (works : ℕ → Option Work) (room x : ℕ) → missed_by_units works room x ≡ total x (λ u. missed_after room (works u))
unfolding missed_by_units
missed_units works room zero = refl
missed_units works room (suc x) = ap (λ z. z + missed_after room (works x)) (missed_units works room x)

missed_array : (A : Arch) (C : Config) (n : ℕ) (image : Image) (c : ℕ) → (at_cycle A C n image c).outside ≡ total c (λ t. total (length A.units) (λ u. missed_after (length image.memory) (begins A C n image u t)))
unfolding at_cycle
missed_array A C n image zero = refl
missed_array A C n image (suc c) =
    ap (λ z. z + missed_by_units (λ u. begins A C n image u c) (length (at_cycle A C n image c).memory) (length A.units)) (missed_array A C n image c)
    ∙ ap (λ z. total c (λ t. total (length A.units) (λ u. missed_after (length image.memory) (begins A C n image u t))) + z)
    (missed_units (λ u. begins A C n image u c) (length (at_cycle A C n image c).memory) (length A.units) ∙ ap (λ z. total (length A.units) (λ u. missed_after z (begins A C n image u c))) (length-at_cycle A C n image c))

module _ (A : Arch) (K : Kernel) (M : Mapping) (n : ℕ) (image : Image) (is : IsArch A) (good : IsKernel K) (legal : IsLegal A K M) (unaliased : IsUnaliased K n image) where
  -- where step k runs
  abbrev seat : ℕ → ℕ
  seat k = (place M (k % size K)).unit

  node_below : (k : ℕ) → k < n * size K → k % size K < size K
  node_below k l = mod_below k (size K) (positive_from k n (size K) l)

  entry_by : (c u : ℕ) (o : Option Work) → u < length A.units → begins A (configuration_of A K M) n image u c ≡ o →
      ((k : ℕ) × (k < n * size K) × (begin K M k ≡ c) × (seat k ≡ u) × (missed_after (length image.memory) o ≡ missed (length image.memory) (work K image k)))
      ⊎ ((missed_after (length image.memory) o ≡ 0) × ((k : ℕ) → k < n * size K → begin K M k ≡ c → seat k ≡ u → ⊥))
  entry_by c u None lu e =
      inr (
        refl,
        λ k l a b.
            let there = begun_step A K M n image is good legal c (right A K M n image is good legal unaliased c) k l (omega (arith, a)) in
            let z : None ≡ Some (work K image k) = sym e ∙ subst₂ (λ x t. begins A (configuration_of A K M) n image x t ≡ Some (work K image k)) b a there in
            cc,
      )
  entry_by c u (Some w) lu e =
      let (v, i, lv, li, x, ct) = started A K M n image u c w legal.interval lu e in
      let k = i * size K + v in
      let lk = step_within i (size K) v n lv li in
      let at : begin K M k ≡ c = begin_at A K M n image is good legal i v lv ∙ sym ct in
      let seat_u : seat k ≡ u = ap (λ z. (place M z).unit) (step_node i (size K) v lv) ∙ x in
      let there = begun_step A K M n image is good legal c (right A K M n image is good legal unaliased c) k lk (omega (arith, at)) in
      let same : Some w ≡ Some (work K image k) = sym e ∙ subst₂ (λ x t. begins A (configuration_of A K M) n image x t ≡ Some (work K image k)) seat_u at there in
      let z : w ≡ work K image k = cc in
      inl (k, lk, at, seat_u, ap (missed (length image.memory)) z)

  once : (j k : ℕ) → j < n * size K → k < n * size K → begin K M j ≡ begin K M k → seat j ≡ seat k → j ≡ k
  once j k lj lk a b =
      let (e, f) = one_start A K M legal (seat k) (begin K M k) (j % size K) (j / size K) (k % size K) (k / size K) (node_below j lj, b, sym a) (node_below k lk, refl, refl) in
      step_of j (size K) ∙ ap (λ z. z * size K + j % size K) f ∙ ap (λ z. k / size K * size K + z) e ∙ sym (step_of k (size K))

  pub outside_left : (machine A (configuration_of A K M) n image).outside ≡ (turns K n image).outside
  outside_left =
      missed_array A (configuration_of A K M) n image (cycles (configuration_of A K M) n)
      ∙ recounted (n * size K) (cycles (configuration_of A K M) n) (length A.units) (begin K M) seat (λ k. missed (length image.memory) (work K image k))
      (λ k l. within_run A K M n (k / size K) (k % size K) legal (turn_below k n (size K) l))
      (λ k l. legal.units (k % size K) (node_below k l))
      (λ c u. missed_after (length image.memory) (begins A (configuration_of A K M) n image u c))
      (λ c u lc lu. entry_by c u (begins A (configuration_of A K M) n image u c) lu refl) once
      ∙ sym (missed_turns K image (n * size K))
