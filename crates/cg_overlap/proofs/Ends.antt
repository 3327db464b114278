-- The memory that a run leaves.
use Rattle.std.proofs.Common.{◌≡◌, ℕ, zero, suc, ◌+◌, ◌-◌, ◌*◌, ◌/◌, ◌%◌, ◌<◌, ◌≤◌, List, [], ◌∷◌, length, get_or, refl, sym, ◌∙◌, arith, mul-le-mul_right, ext_get_or}
use Rattle.std.specs.Prelude.{slice_index}
use Rattle.std.proofs.Math.Nat.{lt-div-mul-add}
use Rattle.cg_model.specs.Work.{Image}
use Rattle.cg_model.specs.Kernel.{Kernel, IsKernel, size}
use Rattle.cg_model.specs.Turns.{before, turns}
use Rattle.cg_model.specs.Order.{IsUnaliased}
use Rattle.cg_model.specs.Array.{Arch, IsArch}
use Rattle.cg_model.specs.declared.mapping.Place.{Place}
use Rattle.cg_model.specs.Mapping.{Mapping, place, IsLegal}
use Rattle.cg_model.specs.Configured.{configuration_of, stages_of}
use Rattle.cg_model.specs.Machine.{at_cycle, machine, cycles}
use Rattle.cg_model.proofs.Lengths.{memory_stays}
use Rattle.cg_overlap.proofs.Sequence.{turn_below}
use Rattle.cg_overlap.proofs.Latest.{latest, agree}
use Rattle.cg_overlap.proofs.Memory.{length-at_cycle}
use Rattle.cg_overlap.proofs.Induction.{begin, Stores, put_at, moves_turns, moves_array, right, stores_rise}

stage_within : (ii : ℕ) (places : List Place) (v : ℕ) → (get_or places v (record { unit = 0; time = 0 })).time / ii + 1 ≤ stages_of ii places
stage_within ii [] v = omega arith
stage_within ii (p ∷ ps) zero = omega arith
stage_within ii (p ∷ ps) (suc v) = omega (arith, stage_within ii ps v)

within_by : (t i n s ii : ℕ) → 0 < ii → i < n → t / ii + 1 ≤ s → t + i * ii < (n + s - 1) * ii
within_by t i n s ii p l h =
    let a = lt-div-mul-add {a = t} p in
    let d = n + s - 1 in
    let e : t / ii + 1 + i ≤ d = omega arith in
    let m : (t / ii + 1 + i) * ii ≤ d * ii = mul-le-mul_right ii e in
    omega arith

-- each step of the n turns begins within the run
pub within_run : (A : Arch) (K : Kernel) (M : Mapping) (n i v : ℕ) → IsLegal A K M → i < n → (place M v).time + i * M.ii < cycles (configuration_of A K M) n
unfolding configuration_of
within_run A K M zero i v legal l = absurd (omega arith)
within_run A K M (suc k) i v legal l = within_by (place M v).time i (suc k) (stages_of M.ii M.places) M.ii legal.interval l (stage_within M.ii M.places v)

module _ (A : Arch) (K : Kernel) (M : Mapping) (n : ℕ) (image : Image) (is : IsArch A) (good : IsKernel K) (legal : IsLegal A K M) (unaliased : IsUnaliased K n image) where
  begins_within : (k : ℕ) → k < n * size K → begin K M k < cycles (configuration_of A K M) n
  begins_within k l = within_run A K M n (k / size K) (k % size K) legal (turn_below k n (size K) l)

  word_left : (a : ℕ) → a < length image.memory → slice_index (machine A (configuration_of A K M) n image).memory a ≡ slice_index (turns K n image).memory a
  unfolding before at_cycle
  word_left a la =
      let N = cycles (configuration_of A K M) n in
      sym (agree (Stores K n image a) (put_at K image) (λ k. k) (begin K M)
      (λ t. slice_index (before K image t).memory a) (λ t. slice_index (at_cycle A (configuration_of A K M) n image t).memory a) (n * size K) N refl
      (latest (Stores K n image a) (put_at K image) (λ k. k) (λ t. slice_index (before K image t).memory a) (n * size K) (λ s b. moves_turns K n image a la s b))
      (latest (Stores K n image a) (put_at K image) (begin K M) (λ t. slice_index (at_cycle A (configuration_of A K M) n image t).memory a) N
      (λ s b. moves_array A K M n image is good legal a N la (right A K M n image is good legal unaliased N) s (omega arith)))
      (λ l w b. begins_within l b)
      (λ l w b. w.0)
      (λ i j wi wj. stores_rise A K M n image is good legal unaliased a i j la wi wj))

  pub memory_left : (machine A (configuration_of A K M) n image).memory ≡ (turns K n image).memory
  memory_left =
      let e = length-at_cycle A (configuration_of A K M) n image (cycles (configuration_of A K M) n) in
      ext_get_or 0 (machine A (configuration_of A K M) n image).memory (turns K n image).memory (e ∙ sym (memory_stays K image (n * size K)))
      (λ a l. word_left a (omega (arith, e)))
