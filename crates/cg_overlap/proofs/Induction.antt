-- The induction over cycles: each unit begins each node on the operands of its turn, and gives the value of that turn.
use Rattle.std.proofs.Common.{true, subst, ◌≡◌, ℕ, zero, suc, ◌+◌, ◌-◌, ◌*◌, ◌/◌, ◌%◌, ◌<◌, ◌≤◌, length, Some, refl, sym, ap, ◌∙◌, subst₂, arith, ⊎_elim, inl, inr}
use Rattle.std.specs.Prelude.{◌⊎◌, slice_index}
use Rattle.std.proofs.lemmas.Bool.{cases_lt, cases_order}
use Rattle.std.proofs.lemmas.List.{get_or_past}
use Rattle.std.proofs.lemmas.Nat.{mod_below}
use Rattle.cg_word.specs.Word.{is_store}
use Rattle.cg_model.specs.Work.{Image, Writes, Reaches}
use Rattle.cg_model.specs.Kernel.{Kernel, IsKernel, size}
use Rattle.cg_model.specs.Turns.{before, work, val}
use Rattle.cg_model.specs.Order.{IsUnaliased}
use Rattle.cg_model.specs.Array.{Arch, IsArch}
use Rattle.cg_model.specs.Mapping.{Mapping, place, IsLegal}
use Rattle.cg_model.specs.Configured.{configuration_of}
use Rattle.cg_model.specs.Machine.{at_cycle, begins, result, result_of}
use Rattle.cg_model.proofs.Lengths.{memory_stays}
use Rattle.cg_overlap.proofs.Sequence.{step_node, step_turn, step_within, step_of, turn_below, positive_from, work_is}
use Rattle.cg_overlap.proofs.Starts.{starts, started}
use Rattle.cg_overlap.proofs.Orders.{source_before, ordered_rises}
use Rattle.cg_overlap.proofs.Latest.{Moves, latest, agree}
use Rattle.cg_overlap.proofs.Memory.{reaches, put, written, written_units, value_same, length-at_cycle}

-- the cycle in which step k begins
abbrev pub begin : Kernel → Mapping → ℕ → ℕ
begin K M k = (place M (k % size K)).time + (k / size K) * M.ii

-- step k of n turns writes that word
abbrev pub Stores : Kernel → ℕ → Image → ℕ → ℕ → Type 0
Stores K n image a k = (k < n * size K) × Writes (work K image k) a

abbrev pub put_at : Kernel → Image → ℕ → ℕ
put_at K image k = put (work K image k)

-- a word of the sequential run's memory, step by step
pub moves_turns : (K : Kernel) (n : ℕ) (image : Image) (a : ℕ) → a < length image.memory → (k : ℕ) → k < n * size K →
    Moves (Stores K n image a) (put_at K image) (λ k. k) (λ t. slice_index (before K image t).memory a) k
unfolding before
moves_turns K n image a l k b =
    ⊎_elim
    (λ h. inl (k, (b, h.0), refl, h.1))
    (λ h. inr (h.0, λ j w e. h.1 (subst (λ i. Writes (work K image i) a) e w.1)))
    (written (before K image k).memory (work K image k) a (omega (arith, memory_stays K image k)))

module _ (A : Arch) (K : Kernel) (M : Mapping) (n : ℕ) (image : Image) (is : IsArch A) (good : IsKernel K) (legal : IsLegal A K M) where
  pub begin_at : (i v : ℕ) → v < size K → begin K M (i * size K + v) ≡ (place M v).time + i * M.ii
  begin_at i v l = rw (step_node i (size K) v l, step_turn i (size K) v l) refl

  -- what was begun before cycle c gave its value
  abbrev pub Right : ℕ → Type 0
  Right c = (v i : ℕ) → v < size K → i < n → (place M v).time + i * M.ii < c → result A (configuration_of A K M) n image (place M v).unit ((place M v).time + i * M.ii) ≡ val K image v i

  pub begun_right : (c : ℕ) → Right c → (v i : ℕ) → v < size K → i < n → (place M v).time + i * M.ii ≤ c →
      begins A (configuration_of A K M) n image (place M v).unit ((place M v).time + i * M.ii) ≡ Some (work K image (i * size K + v))
  begun_right c right v i lv li b =
      starts A K M n image is good legal v i lv li
      (λ p u d init o l.
      let earlier = source_before A K M is good legal v p u d init i lv o l in
      right u (i - d) (good.wired.sources v p u d init lv o) (omega arith) (omega arith))
      ∙ ap Some (sym (work_is K image good.wired i v lv))

  pub begun_step : (c : ℕ) → Right c → (k : ℕ) → k < n * size K → begin K M k ≤ c → begins A (configuration_of A K M) n image (place M (k % size K)).unit (begin K M k) ≡ Some (work K image k)
  begun_step c right k l b =
      begun_right c right (k % size K) (k / size K) (mod_below k (size K) (positive_from k n (size K) l)) (turn_below k n (size K) l) b
      ∙ ap (λ z. Some (work K image z)) (sym (step_of k (size K)))

  -- a word of the array's memory, cycle by cycle
  pub moves_array : (a c : ℕ) → a < length image.memory → Right c → (t : ℕ) → t ≤ c →
      Moves (Stores K n image a) (put_at K image) (begin K M) (λ t. slice_index (at_cycle A (configuration_of A K M) n image t).memory a) t
  unfolding at_cycle
  moves_array a c l right t b =
      ⊎_elim
      (λ h.
      let (u, w, lu, e, writes, now) = h in
      let (v, i, lv, li, x, ct) = started A K M n image u t w legal.interval lu e in
      let k = i * size K + v in
      let begun : begins A (configuration_of A K M) n image (place M v).unit ((place M v).time + i * M.ii) ≡ Some (work K image k) = begun_right c right v i lv li (omega arith) in
      let same : Some w ≡ Some (work K image k) = sym e ∙ subst₂ (λ x t. begins A (configuration_of A K M) n image x t ≡ Some (work K image k)) x (sym ct) begun in
      let z : w ≡ work K image k = cc in
      inl (k, (step_within i (size K) v n lv li, subst (λ u. Writes u a) z writes), begin_at i v lv ∙ sym ct, now ∙ ap put z))
      (λ h. inr (
        h.0,
        λ k s e.
            let lk = mod_below k (size K) (positive_from k n (size K) s.0) in
            h.1 (place M (k % size K)).unit (work K image k) (legal.units (k % size K) lk) (rw e at (begun_step c right k s.0 (omega (arith, e)))) s.1,
      ))
      (written_units (λ x. begins A (configuration_of A K M) n image x t) (at_cycle A (configuration_of A K M) n image t).memory a (length A.units) (omega (arith, length-at_cycle A (configuration_of A K M) n image t)))

  module _ (unaliased : IsUnaliased K n image) where
    -- of two accesses to one word, one of them a store, the earlier begins in an earlier cycle
    pub rises : (a k l : ℕ) → a < length image.memory → k < l → l < n * size K → Reaches (work K image k) a → Reaches (work K image l) a →
        (is_store (work K image k).op ≡ true) ⊎ (is_store (work K image l).op ≡ true) → begin K M k < begin K M l
    rises a k l la lt b rk rl s = ordered_rises A K M is good legal _ _ _ _ (unaliased a k l la lt b rk rl s)

    pub stores_rise : (a k l : ℕ) → a < length image.memory → Stores K n image a k → Stores K n image a l → (k ≡ l → k ≡ l) × (k < l → begin K M k < begin K M l)
    stores_rise a k l la sk sl = (λ e. e, λ lt. rises a k l la lt sl.0 (reaches (work K image k) a sk.1) (reaches (work K image l) a sl.1) (inl sk.1.is))

    -- an access finds the word that it finds in its turn
    load_right : (a k : ℕ) → a < length image.memory → k < n * size K → Right (begin K M k) → Reaches (work K image k) a →
        slice_index (at_cycle A (configuration_of A K M) n image (begin K M k)).memory a ≡ slice_index (before K image k).memory a
    unfolding before at_cycle
    load_right a k la lk right reads =
        sym (agree (Stores K n image a) (put_at K image) (λ k. k) (begin K M)
        (λ t. slice_index (before K image t).memory a) (λ t. slice_index (at_cycle A (configuration_of A K M) n image t).memory a) k (begin K M k) refl
        (latest (Stores K n image a) (put_at K image) (λ k. k) (λ t. slice_index (before K image t).memory a) k (λ s b. moves_turns K n image a la s (omega arith)))
        (latest (Stores K n image a) (put_at K image) (begin K M) (λ t. slice_index (at_cycle A (configuration_of A K M) n image t).memory a) (begin K M k) (λ s b. moves_array a (begin K M k) la right s (omega arith)))
        (λ l w b. rises a l k la b lk (reaches (work K image l) a w.1) reads (inl w.1.is))
        (λ l w b.
        ⊎_elim (λ e. absurd (let z = ap (begin K M) e in omega arith))
        (⊎_elim (λ e. e) (λ e. absurd (let z = rises a k l la e w.0 reads (reaches (work K image l) a w.1) (inr w.1.is) in omega arith)))
        (cases_order l k))
        (λ i j wi wj. stores_rise a i j la wi wj))

    value_right : (v i : ℕ) → v < size K → i < n → Right ((place M v).time + i * M.ii) →
        result A (configuration_of A K M) n image (place M v).unit ((place M v).time + i * M.ii) ≡ val K image v i
    value_right v i lv li right =
        let k = i * size K + v in
        let c = (place M v).time + i * M.ii in
        let memory = (at_cycle A (configuration_of A K M) n image c).memory in
        let lk = step_within i (size K) v n lv li in
        ap (result_of image memory) (begun_right c right v i lv li (omega arith))
        ∙ value_same image memory (before K image k).memory (work K image k)
        (λ a reads.
        ⊎_elim (λ la. let e = begin_at i v lv in rw e at (load_right a k la lk (rw e right) reads))
        (λ la. get_or_past memory a 0 (omega (arith, length-at_cycle A (configuration_of A K M) n image c)) ∙ sym (get_or_past (before K image k).memory a 0 (omega (arith, memory_stays K image k))))
        (cases_lt a (length image.memory)))

    pub right : (c : ℕ) → Right c
    right zero v i lv li b = absurd (omega arith)
    right (suc c) v i lv li b =
        ⊎_elim (λ l. right c v i lv li l)
        (λ l. let e : (place M v).time + i * M.ii ≡ c = omega arith in value_right v i lv li (rw e (right c)))
        (cases_lt ((place M v).time + i * M.ii) c)
