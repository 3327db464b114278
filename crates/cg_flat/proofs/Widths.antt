-- The width of a select is the number of bits of its greatest value.
use Rattle.std.proofs.Common.{◌≡◌, ℕ, zero, suc, ◌+◌, ◌-◌, ◌*◌, ◌/◌, ◌^◌, ◌<◌, ◌≤◌, cond, max, ap, arith, ⊎_elim}
use Rattle.std.specs.Int.Count.{count_leading_zeros}
use Rattle.std.proofs.lemmas.Bool.{cases_lt}
use Rattle.std.proofs.lemmas.Nat.{leading_length}
use Rattle.std.proofs.Math.Nat.{pow-suc}
use Rattle.std.proofs.Math.Pow.{pow_mono}
use Rattle.std.proofs.Math.Dec.{eqb-suc-zero}
use Rattle.cg_flat.specs.Slots.{width, width_by, IsWidth}

-- the width holds it
width_by-holds : (fuel k : ℕ) → k ≤ fuel → k < 2 ^ width_by fuel k
unfolding width_by
width_by-holds zero k le = omega arith
width_by-holds (suc fuel) zero le = omega arith
width_by-holds (suc fuel) (suc k) le =
    let below = width_by-holds fuel (suc k / 2) (omega arith) in
    let is : width_by (suc fuel) (suc k) ≡ suc (width_by fuel (suc k / 2)) = ap (λ b. cond b 0 (suc (width_by fuel (suc k / 2)))) (eqb-suc-zero k) in
    rw is (omega (arith, pow-suc 2 (width_by fuel (suc k / 2))))

pub width_holds : (k : ℕ) → k < 2 ^ width k
width_holds k = width_by-holds k k (omega arith)

-- no smaller width holds it
width_by-least : (fuel k : ℕ) → 2 ^ width_by fuel k ≤ max 1 (2 * k)
unfolding width_by
width_by-least zero k = omega arith
width_by-least (suc fuel) zero = omega arith
width_by-least (suc fuel) (suc k) =
    let below = width_by-least fuel (suc k / 2) in
    let is : width_by (suc fuel) (suc k) ≡ suc (width_by fuel (suc k / 2)) = ap (λ b. cond b 0 (suc (width_by fuel (suc k / 2)))) (eqb-suc-zero k) in
    rw is (omega (arith, pow-suc 2 (width_by fuel (suc k / 2))))

same_width : (k a b : ℕ) → k < 2 ^ a → 2 ^ b ≤ 2 * k + 1 → b ≤ a
same_width k a b lt le =
    ⊎_elim (λ l. let le2 : suc a ≤ b = omega arith in let mono : 2 ^ suc a ≤ 2 ^ b = pow_mono le2 in absurd (omega (arith, pow-suc 2 a))) (λ l. l) (cases_lt a b)

pub width_is : (k : ℕ) → k < 2 ^ 32 → 32 - count_leading_zeros 32 k ≡ width k
width_is k lt =
    let top = leading_length 32 k lt in
    let m = top.0 in
    let one : m ≤ width k = same_width k (width k) m (width_holds k) top.3 in
    let least = width_by-least k k in
    let two : width k ≤ m = same_width k m (width k) top.2 (omega arith) in
    let three = top.1 in
    omega arith

pub is_width : (k : ℕ) → IsWidth k (width k)
is_width k = record {
  enough = width_holds k;
  least = λ v lt. let most = width_by-least k k in same_width k v (width k) lt (omega (arith, most));
}
