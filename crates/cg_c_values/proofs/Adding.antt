-- Identities of sums, differences and products of words.
use Rattle.std.proofs.Common.{◌≡◌, ℕ, ◌+◌, ◌-◌, ◌*◌, ◌%◌, ◌^◌, ◌<◌, refl, sym, ap, ◌∙◌, arith}
use Rattle.std.proofs.Math.Nat.{mod-eq_of_lt, mul_comm, mul_assoc}
use Rattle.std.proofs.lemmas.Nat.{mul-mod_first, mul-mod_second}
use Rattle.cg_word.specs.declared.op.Op.TheVariants.{Add, Sub, Mul, Shl}
use Rattle.cg_word.specs.Word.{apply_of, words}

-- ---- sums

pub add_zero : (x : ℕ) → x < words → apply_of Add x 0 0 ≡ x
unfolding apply_of
add_zero x l = omega arith

pub add_exchanged : (x y : ℕ) → apply_of Add x y 0 ≡ apply_of Add y x 0
unfolding apply_of
add_exchanged x y = omega arith

-- two constants become one
pub add_twice : (x c d : ℕ) → apply_of Add x ((c + d) % words) 0 ≡ apply_of Add (apply_of Add x c 0) d 0
unfolding apply_of
add_twice x c d = omega arith

pub outwards_first : (x y c : ℕ) → apply_of Add (apply_of Add x y 0) c 0 ≡ apply_of Add (apply_of Add x c 0) y 0
unfolding apply_of
outwards_first x y c = omega arith

pub outwards_second : (x y c : ℕ) → apply_of Add (apply_of Add x y 0) c 0 ≡ apply_of Add x (apply_of Add y c 0) 0
unfolding apply_of
outwards_second x y c = omega arith

pub add_regrouped : (p x y : ℕ) → apply_of Add p (apply_of Add x y 0) 0 ≡ apply_of Add (apply_of Add p x 0) y 0
unfolding apply_of
add_regrouped p x y = omega arith

-- ---- differences

pub add_negative : (x z : ℕ) → z < words → apply_of Sub x z 0 ≡ apply_of Add x (apply_of Sub 0 z 0) 0
unfolding apply_of
add_negative x z l = omega arith

pub sub_number : (x d : ℕ) → d < words → apply_of Add x ((0 + (words - d)) % words) 0 ≡ apply_of Sub x d 0
unfolding apply_of
sub_number x d l = omega arith

pub sub_zero : (x : ℕ) → x < words → apply_of Sub x 0 0 ≡ x
unfolding apply_of
sub_zero x l = omega arith

pub sub_small : (x y : ℕ) → apply_of Sub x y 0 < words
unfolding apply_of
sub_small x y = omega arith

pub sub_one : (x : ℕ) → (x + 4294967295) % words ≡ apply_of Sub x 1 0
unfolding apply_of
sub_one x = omega arith

pub add_one : (x : ℕ) → (x + 1) % words ≡ apply_of Add x 1 0
unfolding apply_of
add_one x = refl

pub sub_itself : (x : ℕ) → x < words → 0 ≡ apply_of Sub x x 0
unfolding apply_of
sub_itself x l = omega arith

-- ---- products

pub mul_zero : (x : ℕ) → 0 ≡ apply_of Mul x 0 0
unfolding apply_of
mul_zero x = omega arith

pub mul_one : (x : ℕ) → x < words → x ≡ apply_of Mul x 1 0
unfolding apply_of
mul_one x l = omega arith

pub mul_exchanged : (x y : ℕ) → apply_of Mul x y 0 ≡ apply_of Mul y x 0
unfolding apply_of
mul_exchanged x y = ap (λ z. z % words) (mul_comm x y)

pub mul_power : (x k w : ℕ) → k < 32 → w ≡ 2 ^ k → apply_of Shl x k 0 ≡ apply_of Mul x w 0
unfolding apply_of
mul_power x k w l e = rw (e, mod-eq_of_lt l) refl

pub mul_top : (x : ℕ) → x < words → apply_of Sub 0 x 0 ≡ apply_of Mul x 4294967295 0
unfolding apply_of
mul_top x l = omega arith

pub mul_twice : (x c d : ℕ) → apply_of Mul x ((c * d) % words) 0 ≡ apply_of Mul (apply_of Mul x c 0) d 0
unfolding apply_of
mul_twice x c d = mul-mod_second x (c * d) words ∙ ap (λ z. z % words) (sym (mul_assoc x c d)) ∙ sym (mul-mod_first (x * c) d words)
