-- A number and its bits.
use Rattle.std.proofs.Common.{◌≡◌, ℕ, zero, suc, ◌+◌, ◌*◌, ◌/◌, ◌%◌, ◌^◌, ◌<◌, ◌≤◌, Bool, true, false, eqb, List, [], ◌∷◌, ◌++◌, length, refl, sym, ap, ◌∙◌, append_assoc, arith, length-append}
use Rattle.std.proofs.Math.Nat.{pow-suc, mul_assoc}
use Rattle.std.specs.Int.Bits.{block_odd, block_half}
use Rattle.std.proofs.lemmas.List.{append-nil}
use Rattle.cg_bits.specs.Numbers.{digit, bits_of, number_after, number}

-- ---- digits

pub digit_is : (r : ℕ) → r < 2 → digit (eqb r 1) ≡ r
digit_is zero lt = refl
digit_is (suc zero) lt = refl
digit_is (suc (suc r)) lt = absurd (omega arith)

pub digit_back : (n : ℕ) → digit (eqb (n % 2) 1) ≡ n % 2
digit_back n = digit_is (n % 2) (omega arith)

pub digit_again : (n : ℕ) (b : Bool) → eqb ((n * 2 + digit b) % 2) 1 ≡ b
digit_again n true = let e : (n * 2 + 1) % 2 ≡ 1 = omega arith in rw e refl
digit_again n false = let e : (n * 2 + 0) % 2 ≡ 0 = omega arith in rw e refl

pub digit_small : (b : Bool) → digit b < 2
digit_small true = omega arith
digit_small false = omega arith

-- ---- bits of a number

pub length-bits_of : (w n : ℕ) → length (bits_of w n) ≡ w
unfolding bits_of
length-bits_of zero n = refl
length-bits_of (suc w) n = omega (arith, length-append (bits_of w (n / 2)) (eqb (n % 2) 1 ∷ []), length-bits_of w (n / 2))

half_below : (y b : ℕ) → y < 2 ^ suc b → y / 2 < 2 ^ b
half_below y b lt = omega (arith, pow-suc 2 b)

-- the upper bits, and then the lower ones
pub bits_of-split : (a b x y : ℕ) → y < 2 ^ b → bits_of (a + b) (x * 2 ^ b + y) ≡ bits_of a x ++ bits_of b y
unfolding bits_of
bits_of-split a zero x y lt =
    let k : a + 0 ≡ a = omega arith in
    let e : x * 2 ^ 0 + y ≡ x = omega arith in
    ap (λ w. bits_of w (x * 2 ^ 0 + y)) k ∙ ap (bits_of a) e ∙ sym (append-nil (bits_of a x))
bits_of-split a (suc b) x y lt =
    let k : a + suc b ≡ suc (a + b) = omega arith in
    let n = x * 2 ^ suc b + y in
    let upper : bits_of (a + b) (n / 2) ≡ bits_of a x ++ bits_of b (y / 2) = ap (bits_of (a + b)) (block_half x b y) ∙ bits_of-split a b x (y / 2) (half_below y b lt) in
    let last : eqb (n % 2) 1 ≡ eqb (y % 2) 1 = ap (λ z. eqb z 1) (block_odd x b y) in
    ap (λ w. bits_of w n) k ∙ ap (λ us. us ++ eqb (n % 2) 1 ∷ []) upper ∙ ap (λ d. (bits_of a x ++ bits_of b (y / 2)) ++ d ∷ []) last ∙ append_assoc (bits_of a x) (bits_of b (y / 2)) (eqb (y % 2) 1 ∷ [])

-- ---- the number of bits

pub number_after-append : (n : ℕ) (xs ys : List Bool) → number_after n (xs ++ ys) ≡ number_after (number_after n xs) ys
unfolding number_after
number_after-append n [] ys = refl
number_after-append n (x ∷ xs) ys = number_after-append (n * 2 + digit x) xs ys

pub number_after-bits : (n w k : ℕ) → k < 2 ^ w → number_after n (bits_of w k) ≡ n * 2 ^ w + k
unfolding number_after bits_of
number_after-bits n zero k lt = omega arith
number_after-bits n (suc w) k lt =
    let m : n * 2 ^ suc w ≡ n * 2 ^ w * 2 = ap (λ z. n * z) (pow-suc 2 w) ∙ sym (mul_assoc n (2 ^ w) 2) in
    let before = number_after-bits n w (k / 2) (half_below k w lt) in
    let split = number_after-append n (bits_of w (k / 2)) (eqb (k % 2) 1 ∷ []) in
    let e : number_after n (bits_of w (k / 2)) * 2 + digit (eqb (k % 2) 1) ≡ n * 2 ^ suc w + k = rw (before, digit_back, m) (omega arith) in
    split ∙ e

pub number-bits : (w k : ℕ) → k < 2 ^ w → number (bits_of w k) ≡ k
number-bits w k lt = number_after-bits 0 w k lt ∙ omega arith

spread : (n d p : ℕ) → (n * 2 + d) * p ≡ n * (p * 2) + d * p
spread n d p = omega arith

pub number_after-is : (n : ℕ) (bs : List Bool) → number_after n bs ≡ n * 2 ^ length bs + number bs
unfolding number_after
number_after-is n [] = omega arith
number_after-is n (b ∷ bs) =
    let p = 2 ^ length bs in
    let one = number_after-is (n * 2 + digit b) bs in
    let two = number_after-is (0 * 2 + digit b) bs in
    let q : 2 ^ suc (length bs) ≡ p * 2 = pow-suc 2 (length bs) in
    let m : n * 2 ^ suc (length bs) ≡ n * (p * 2) = ap (λ z. n * z) q in
    omega (arith, spread n (digit b) p, spread 0 (digit b) p)

pub number_below : (bs : List Bool) → number bs < 2 ^ length bs
unfolding number_after
number_below [] = omega arith
number_below (b ∷ bs) =
    let p = 2 ^ length bs in
    let q : 2 ^ suc (length bs) ≡ p * 2 = pow-suc 2 (length bs) in
    let two = number_after-is (0 * 2 + digit b) bs in
    let below = number_below bs in
    let part : (0 * 2 + digit b) * p ≤ p = at_most b p in
    omega arith
  where
    at_most : (b : Bool) (p : ℕ) → (0 * 2 + digit b) * p ≤ p
    at_most true p = omega arith
    at_most false p = omega arith

pub bits_of-number : (bs : List Bool) → bits_of (length bs) (number bs) ≡ bs
unfolding bits_of number_after
bits_of-number [] = refl
bits_of-number (b ∷ bs) =
    let d = 0 * 2 + digit b in
    let is : number (b ∷ bs) ≡ d * 2 ^ length bs + number bs = number_after-is d bs in
    let k : suc (length bs) ≡ 1 + length bs = omega arith in
    let split = bits_of-split 1 (length bs) d (number bs) (number_below bs) in
    let first : eqb (d % 2) 1 ∷ [] ≡ b ∷ [] = ap (λ z. z ∷ []) (digit_again 0 b) in
    ap (bits_of (suc (length bs))) is ∙ ap (λ w. bits_of w (d * 2 ^ length bs + number bs)) k ∙ split ∙ ap (λ us. us ++ bits_of (length bs) (number bs)) first ∙ ap (λ us. b ∷ us) (bits_of-number bs)
