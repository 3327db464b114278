-- What the words draw: a place for the node, on a unit that offers its operation, at a time of a mapping.
use Rattle.std.proofs.Common.{ℕ, ◌+◌, ◌-◌, ◌*◌, ◌/◌, ◌%◌, ◌^◌, ◌<◌, ◌≤◌, length, List, subst, arith}
use Rattle.std.specs.Prelude.{Contains, slice_index, bit_xor}
use Rattle.std.specs.Int.{w32, rotate_right}
use Rattle.std.proofs.lemmas.Nat.{or_lt, shr_le, mod_below, div_below}
use Rattle.std.proofs.Math.Nat.{mul_comm, mul-lt-mul_of_pos_left}
use Rattle.rand_pcg.specs.Lcg.{Lcg}
use Rattle.cg_word.proofs.Marks.{among_from}
use Rattle.cg_model.specs.Kernel.{Kernel, size, node}
use Rattle.cg_model.specs.Array.{Arch, unit}
use Rattle.cg_model.specs.Limits.{latest_time}
use Rattle.cg_place.specs.Placed.{offering}
use Rattle.cg_place.specs.Draws.{draw}
use Rattle.cg_place.proofs.Offering.{member}
use Rattle.cg_walk_spec.specs.Words.{after_words, word}
use Rattle.cg_walk_spec.specs.Walk.{proposal}
use Rattle.cg_walk_spec.specs.Good.{IsReady}

rotated_small : (n by : ℕ) → n < 2 ^ 32 → rotate_right w32 n by < 2 ^ 32
rotated_small n by l =
    let a = shr_le n (by % 32) in
    or_lt 32 (n / 2 ^ (by % 32)) ((n * 2 ^ ((32 - by % 32) % 32)) % 2 ^ 32) (omega (arith, a, l)) (mod_below (n * 2 ^ ((32 - by % 32) % 32)) (2 ^ 32) (omega arith))

-- the words are of 32 bits
pub word_small : (n : ℕ) (g : Lcg) → word n g < 2 ^ 32
word_small n g =
    let s = (after_words n g).state in
    rotated_small (bit_xor (s / 2 ^ 18) s / 2 ^ 27 % 2 ^ 32) (s / 2 ^ 59) (mod_below (bit_xor (s / 2 ^ 18) s / 2 ^ 27) (2 ^ 32) (omega arith))

-- and draw numbers below k
pub draw_below : (k w : ℕ) → 0 < k → w < 2 ^ 32 → draw k w < k
draw_below k w some small =
    let a : k * w < k * 2 ^ 32 = mul-lt-mul_of_pos_left small some in
    div_below (w * k) (2 ^ 32) k (omega arith) (subst (λ x. x < k * 2 ^ 32) (mul_comm k w) a)

-- a place that node v may take in a mapping
pub record MayTake (A : Arch) (K : Kernel) (v x t : ℕ) : Type 0 where
  pub within : x < length A.units
  pub offers : Contains (unit A x).ops (node K v).op
  pub soon : t ≤ latest_time

module _ (A : Arch) (K : Kernel) (ii : ℕ) (early : List ℕ) (ready : IsReady A K ii early) where
  -- one of the units that offer its operation, at one of the times from its earliest on
  pub drawn_may : (v k d : ℕ) → v < size K → k < length (offering A (node K v).op) → d < 2 * ii + 8 →
      MayTake A K v (slice_index (offering A (node K v).op) k) (slice_index early v + d)
  drawn_may v k d l in_list near =
      let m = member A (node K v).op k in_list in
      let s = ready.soon v l in
      record {
        within = m.0;
        offers = among_from (unit A (slice_index (offering A (node K v).op) k)).ops (node K v).op m.1;
        soon = omega (arith, s, near);
      }

  pub proposal_may : (g : Lcg) → (proposal A K ii early g).node < size K →
      MayTake A K (proposal A K ii early g).node (proposal A K ii early g).place.unit (proposal A K ii early g).place.time
  proposal_may g l =
      let v = (proposal A K ii early g).node in
      drawn_may v (draw (length (offering A (node K v).op)) (word 1 g)) (draw (2 * ii + 8) (word 2 g)) l
      (draw_below (length (offering A (node K v).op)) (word 1 g) (ready.offered v l) (word_small 1 g))
      (draw_below (2 * ii + 8) (word 2 g) (omega arith) (word_small 2 g))
