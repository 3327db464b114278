-- Sizes of tables, in numbers.
use Rattle.std.proofs.Common.{ℕ, ◌+◌, ◌-◌, ◌*◌, ◌/◌, ◌<◌, ◌≤◌, arith, mul-le-mul_right}
use Rattle.std.proofs.Math.Nat.{div-le_of_le-mul}
use Rattle.std.proofs.lemmas.Nat.{div_below}

pub across_few : (n c : ℕ) → n ≤ 120 → n / (c + 2) ≤ 60
across_few n c h = div-le_of_le-mul (c + 2) (omega arith)

pub product_few : (a b : ℕ) → a ≤ 64 → b ≤ 62 → a * b ≤ 3968
product_few a b p q = let m : a * b ≤ 64 * b = mul-le-mul_right b p in omega arith

pub blocks_few : (s a : ℕ) → 1 ≤ a → (s + a - 1) / a ≤ s
blocks_few s a p =
    let m : 1 * s ≤ a * s = mul-le-mul_right s p in
    let l : (s + a - 1) / a < s + 1 = div_below (s + a - 1) a (s + 1) (omega arith) (omega arith) in
    omega arith
