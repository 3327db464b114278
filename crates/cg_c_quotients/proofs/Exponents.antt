-- Powers of two that are words.
use Rattle.std.proofs.Common.{◌≡◌, ℕ, zero, suc, ◌-◌, ◌%◌, ◌^◌, ◌≢◌, ◌<◌, ◌≤◌, subst, arith, ⊎_elim}
use Rattle.std.proofs.Math.Nat.{pow-le-pow_right}
use Rattle.std.proofs.lemmas.Bool.{cases_lt}
use Rattle.std.proofs.lemmas.Nat.{and_mask, pow_pos}
use Rattle.cg_word.specs.declared.op.Op.TheVariants.{And}
use Rattle.cg_word.specs.Word.{apply_of}
use Rattle.cg_c_quotients.specs.Quotients.{IsNoPower}

pub exponent_below : (k : ℕ) → 2 ^ k < 2 ^ 32 → k < 32
exponent_below k l =
    ⊎_elim (λ (h : k < 32). h) (λ (h : 32 ≤ k). let g : 2 ^ 32 ≤ 2 ^ k = pow-le-pow_right (omega arith) h in absurd (omega arith)) (cases_lt k 32)

-- a word that is no power below 2 ^ 32 is none at all
pub no_power : (n : ℕ) → n < 2 ^ 32 → ((k : ℕ) → k < 32 → n ≢ 2 ^ k) → IsNoPower n
no_power n l none k e = none k (exponent_below k (subst (λ x. x < 2 ^ 32) e l)) e

pub positive_exponent : (n k : ℕ) → n ≢ 1 → n ≡ 2 ^ k → 1 ≤ k
positive_exponent n zero d e = absurd (d e)
positive_exponent n (suc k) d e = omega arith

pub power_positive : (n k : ℕ) → n ≡ 2 ^ k → 1 ≤ n
power_positive n k e = let p = pow_pos k in omega arith

pub mask_is : (n k word : ℕ) → n ≡ 2 ^ k → apply_of And word (n - 1) 0 ≡ word % n
unfolding apply_of
mask_is n k word e = rw e (and_mask word k)
