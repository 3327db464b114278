-- Pairs of operations on three words that can be replaced by another pair, which joins the words in another order.
use Rattle.std.specs.Prelude.{◌≡◌, ℕ, zero, suc, ◌<◌, Bool, true, false}
use Rattle.cg_word.specs.declared.op.Op.{Op}
use Rattle.cg_word.specs.declared.op.Op.TheVariants.{Add, Sub, Mul, And, Or, Xor, Mins, Maxs}
use Rattle.cg_word.specs.Word.{apply_of, words}
use Rattle.cg_simplify_rotate.specs.declared.rows.Row.{Row}

-- the operations of such pairs
abbrev pub is_turning : Op → Bool
is_turning Add = true
is_turning Sub = true
is_turning Mul = true
is_turning And = true
is_turning Or = true
is_turning Xor = true
is_turning Mins = true
is_turning Maxs = true
is_turning _ = false

-- the operations that join words in any order and in either direction
abbrev pub is_free : Op → Bool
is_free Add = true
is_free Mul = true
is_free And = true
is_free Or = true
is_free Xor = true
is_free Mins = true
is_free Maxs = true
is_free _ = false

-- op on x and y, with x as its operand number `place`, 0 or 1
abbrev pub joined : Op → ℕ → ℕ → ℕ → ℕ
joined op zero x y = apply_of op x y 0
joined op (suc place) x y = apply_of op y x 0

-- if u joins p, at place j, with a, and v joins the result, at place i, with b, then it is the same to join a and b as r
-- says, and then p with the result
pub record AreAlike (v : Op) (i : ℕ) (u : Op) (j : ℕ) (r : Row) : Type 0 where
  pub given_u : is_turning u ≡ true
  pub given_v : is_turning v ≡ true
  pub first : is_turning r.first ≡ true
  pub second : is_turning r.second ≡ true
  pub alike : (p a b : ℕ) → p < words → a < words → b < words →
      joined r.second r.place_of_p p (joined r.first r.place_of_a a b) ≡ joined v i (joined u j p a) b
