-- Identities of operations on the bits of words.
use Rattle.std.proofs.Common.{◌≡◌, ℕ, zero, suc, ◌<◌, ◌≤◌, refl, sym, ◌∙◌, arith}
use Rattle.std.specs.Prelude.{bit_and, bit_xor}
use Rattle.std.specs.Int.Bits.{and_zero_r, or_zero_r, xor_zero_r, and_self, or_self, xor_self, xor_assoc, or_add_and}
use Rattle.std.proofs.Math.Nat.{mod-eq_of_lt}
use Rattle.std.proofs.lemmas.Nat.{and_comm, or_comm, xor_comm, and_assoc, and_mask}
use Rattle.cg_word.specs.declared.op.Op.TheVariants.{And, Or, Xor}
use Rattle.cg_word.specs.Word.{apply_of, words}

pub and_zero : (x : ℕ) → 0 ≡ apply_of And x 0 0
unfolding apply_of
and_zero x = sym (and_zero_r x)

pub and_itself : (x : ℕ) → x ≡ apply_of And x x 0
unfolding apply_of
and_itself x = sym (and_self x)

pub and_exchanged : (x y : ℕ) → apply_of And x y 0 ≡ apply_of And y x 0
unfolding apply_of
and_exchanged x y = and_comm x y

pub and_all : (x : ℕ) → x < words → x ≡ apply_of And x 4294967295 0
unfolding apply_of
and_all x l = sym (and_mask x 32 ∙ mod-eq_of_lt l)

-- a mask with the lowest bit leaves 0 and 1
pub and_truth : (x w : ℕ) → x ≤ 1 → bit_and w 1 ≡ 1 → x ≡ apply_of And x w 0
unfolding apply_of
and_truth zero w l e = refl
and_truth (suc zero) w l e = sym (and_comm 1 w ∙ e)
and_truth (suc (suc x)) w l e = absurd (omega arith)

pub and_twice : (x c d : ℕ) → apply_of And x (bit_and c d) 0 ≡ apply_of And (apply_of And x c 0) d 0
unfolding apply_of
and_twice x c d = sym (and_assoc d x c)

pub or_zero : (x : ℕ) → x ≡ apply_of Or x 0 0
unfolding apply_of
or_zero x = sym (or_zero_r x)

pub or_itself : (x : ℕ) → x ≡ apply_of Or x x 0
unfolding apply_of
or_itself x = sym (or_self x)

pub or_exchanged : (x y : ℕ) → apply_of Or x y 0 ≡ apply_of Or y x 0
unfolding apply_of
or_exchanged x y = or_comm x y

pub or_all : (x : ℕ) → x < words → 4294967295 ≡ apply_of Or x 4294967295 0
unfolding apply_of
or_all x l = let sum = or_add_and x 4294967295 in let low : bit_and x 4294967295 ≡ x = and_mask x 32 ∙ mod-eq_of_lt l in omega arith

pub xor_zero : (x : ℕ) → x ≡ apply_of Xor x 0 0
unfolding apply_of
xor_zero x = sym (xor_zero_r x)

pub xor_itself : (x : ℕ) → 0 ≡ apply_of Xor x x 0
unfolding apply_of
xor_itself x = sym (xor_self x)

pub xor_exchanged : (x y : ℕ) → apply_of Xor x y 0 ≡ apply_of Xor y x 0
unfolding apply_of
xor_exchanged x y = xor_comm x y

pub xor_twice : (x c d : ℕ) → apply_of Xor x (bit_xor c d) 0 ≡ apply_of Xor (apply_of Xor x c 0) d 0
unfolding apply_of
xor_twice x c d = sym (xor_assoc x c d)
