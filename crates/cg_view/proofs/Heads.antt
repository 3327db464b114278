-- What the first bits of a unit and of an argument say, read at once.
use Rattle.std.proofs.Common.{◌≡◌, ℕ, ◌+◌, ◌*◌, ◌/◌, ◌%◌, ◌^◌, ◌<◌, ◌≤◌, List, length, ap, ◌∙◌, arith}
use Rattle.cg_bits.specs.Numbers.{number_at, bits_of_bytes}
use Rattle.cg_bits.proofs.Bitwise.{upper_part, lower_part}
use Rattle.cg_bits.proofs.Bytes.{length-bits_of_bytes}
use Rattle.cg_view.specs.Held.{HoldsUnit}

module _ (body : List ℕ) (at n : ℕ) (held : HoldsUnit body at n) where
  within : (k : ℕ) → k ≤ 58 + n * 132 → at + k ≤ length (bits_of_bytes body)
  within k le = let inside = held.inside in omega (arith, length-bits_of_bytes body)

  pub op_head : number_at (bits_of_bytes body) at 26 / 2 ^ 20 ≡ number_at (bits_of_bytes body) at 6
  op_head = upper_part (bits_of_bytes body) at 6 20 (within 26 (omega arith))

  pub stage_head : number_at (bits_of_bytes body) at 26 / 2 ^ 4 % 65536 ≡ number_at (bits_of_bytes body) (at + 6) 16
  stage_head = ap (λ z. z % 65536) (upper_part (bits_of_bytes body) at 22 4 (within 26 (omega arith))) ∙ lower_part (bits_of_bytes body) at 6 16 (within 22 (omega arith))

  pub port_head : number_at (bits_of_bytes body) at 26 % 16 ≡ number_at (bits_of_bytes body) (at + 22) 4
  port_head = lower_part (bits_of_bytes body) at 22 4 (within 26 (omega arith))

  arg_within : (p k : ℕ) → p < n → k ≤ 132 → at + 58 + p * 132 + k ≤ length (bits_of_bytes body)
  arg_within p k lt le = let inside = within (58 + n * 132) (omega arith) in omega arith

  pub fixed_head : (p : ℕ) → p < n → number_at (bits_of_bytes body) (at + 58 + p * 132) 4 / 2 ^ 3 ≡ number_at (bits_of_bytes body) (at + 58 + p * 132) 1
  fixed_head p lt = upper_part (bits_of_bytes body) (at + 58 + p * 132) 1 3 (arg_within p 4 lt (omega arith))

  pub count_head : (p : ℕ) → p < n → number_at (bits_of_bytes body) (at + 58 + p * 132) 4 % 8 ≡ number_at (bits_of_bytes body) (at + 58 + p * 132 + 1) 3
  count_head p lt = lower_part (bits_of_bytes body) (at + 58 + p * 132) 1 3 (arg_within p 4 lt (omega arith))
