-- Words that are joined in another order.
use Rattle.std.proofs.Common.{◌≡◌, ℕ, zero, suc, ◌+◌, ◌-◌, ◌*◌, ◌/◌, ◌%◌, ◌<◌, ◌≤◌, true, cond, nat_lt, refl, sym, ap, ◌∙◌, arith, ⊎_elim}
use Rattle.std.specs.Prelude.{bit_or}
use Rattle.std.specs.Int.Bits.{xor_assoc}
use Rattle.std.proofs.Math.Nat.{add-mod-mod, mod-add-mod, mul_assoc, mul_comm, add_comm}
use Rattle.std.proofs.lemmas.Bool.{cases_lt, lt-ltb, le-ltb}
use Rattle.std.proofs.lemmas.Nat.{and_assoc, and_comm, or_comm, xor_comm, or_shr, or_mod, mul-mod_first, mul-mod_second}
use Rattle.cg_word.specs.declared.op.Op.{Op}
use Rattle.cg_word.specs.declared.op.Op.TheVariants.{Add, Sub, Mul, And, Or, Xor, Mins, Maxs}
use Rattle.cg_word.specs.Word.{apply_of, rank, words}
use Rattle.cg_simplify_facts.proofs.Values.{value_small}
use Rattle.cg_simplify_rotate.specs.declared.rows.Row.{Row}
use Rattle.cg_simplify_rotate.specs.Rows.{AreAlike, is_free, is_turning, joined}

-- ---- sums and differences

left : (w x y z : ℕ) → ((x + y) % w + z) % w ≡ (x + y + z) % w
left w x y z = mod-add-mod (x + y) w z

right : (w x y z : ℕ) → (x + (y + z) % w) % w ≡ (x + (y + z)) % w
right w x y z = add-mod-mod x (y + z) w

-- x - y is x + c, if y + c is the number of words
less : (w x y c : ℕ) → y + c ≡ w → x + w - y ≡ x + c
less w x y c e = omega arith

-- the rows of the table with differences, over any number of words
pub add_less : (w p a b : ℕ) → b ≤ w → (p + (a + w - b) % w) % w ≡ ((p + a) % w + w - b) % w
add_less w p a b l =
    let c = w - b in
    let e : b + c ≡ w = omega arith in
    ap (λ t. (p + t % w) % w) (less w a b c e)
    ∙ right w p a c
    ∙ ap (λ t. t % w) (let z : p + (a + c) ≡ p + a + c = omega arith in z)
    ∙ sym (left w p a c)
    ∙ ap (λ t. t % w) (sym (less w ((p + a) % w) b c e))

pub less_add : (w p a b : ℕ) → a ≤ w → (p + (b + w - a) % w) % w ≡ ((p + w - a) % w + b) % w
less_add w p a b l =
    let c = w - a in
    let e : a + c ≡ w = omega arith in
    ap (λ t. (p + t % w) % w) (less w b a c e)
    ∙ right w p b c
    ∙ ap (λ t. t % w) (let z : p + (b + c) ≡ p + c + b = omega arith in z)
    ∙ sym (left w p c b)
    ∙ ap (λ t. (t % w + b) % w) (sym (less w p a c e))

pub from_add : (w p a b : ℕ) → p ≤ w → ((a + b) % w + w - p) % w ≡ ((a + w - p) % w + b) % w
from_add w p a b l =
    let c = w - p in
    let e : p + c ≡ w = omega arith in
    ap (λ t. t % w) (less w ((a + b) % w) p c e)
    ∙ left w a b c
    ∙ ap (λ t. t % w) (let z : a + b + c ≡ a + c + b = omega arith in z)
    ∙ sym (left w a c b)
    ∙ ap (λ t. (t % w + b) % w) (sym (less w a p c e))

pub from_less : (w p a b : ℕ) → p ≤ w → b ≤ w → ((a + w - b) % w + w - p) % w ≡ ((a + w - p) % w + w - b) % w
from_less w p a b l m =
    let c = w - p in
    let d = w - b in
    let e : p + c ≡ w = omega arith in
    let f : b + d ≡ w = omega arith in
    ap (λ t. (t % w + w - p) % w) (less w a b d f)
    ∙ ap (λ t. t % w) (less w ((a + d) % w) p c e)
    ∙ left w a d c
    ∙ ap (λ t. t % w) (let z : a + d + c ≡ a + c + d = omega arith in z)
    ∙ sym (left w a c d)
    ∙ ap (λ t. t % w) (sym (less w ((a + c) % w) b d f))
    ∙ ap (λ t. (t % w + w - b) % w) (sym (less w a p c e))

-- ---- operations that join words in any order

pub record IsFree (op : Op) : Type 0 where
  pub turning : is_turning op ≡ true
  pub comm : (x y : ℕ) → x < words → y < words → apply_of op x y 0 ≡ apply_of op y x 0
  pub assoc : (x y z : ℕ) → apply_of op (apply_of op x y 0) z 0 ≡ apply_of op x (apply_of op y z 0) 0

pub add_free : IsFree Add
unfolding apply_of
add_free =
    record {
      turning = refl;
      comm = λ x y a b. ap (λ t. t % words) (add_comm x y);
      assoc = λ x y z. left words x y z ∙ ap (λ t. t % words) (let e : x + y + z ≡ x + (y + z) = omega arith in e) ∙ sym (right words x y z);
    }

pub mul_free : IsFree Mul
unfolding apply_of
mul_free =
    record {
      turning = refl;
      comm = λ x y a b. ap (λ t. t % words) (mul_comm x y);
      assoc = λ x y z. mul-mod_first (x * y) z words ∙ ap (λ t. t % words) (mul_assoc x y z) ∙ sym (mul-mod_second x (y * z) words);
    }

pub and_free : IsFree And
unfolding apply_of
and_free = record { turning = refl; comm = λ x y a b. and_comm x y; assoc = λ x y z. and_assoc z x y }

pub xor_free : IsFree Xor
unfolding apply_of
xor_free = record { turning = refl; comm = λ x y a b. xor_comm x y; assoc = λ x y z. xor_assoc x y z }

-- by the last bit, and the others
or_bits : (x y z : ℕ) → x < 2 → y < 2 → z < 2 → bit_or (bit_or x y) z ≡ bit_or x (bit_or y z)
or_bits zero y z a b c = refl
or_bits (suc zero) zero z a b c = refl
or_bits (suc zero) (suc zero) zero a b c = refl
or_bits (suc zero) (suc zero) (suc zero) a b c = refl
or_bits (suc zero) (suc zero) (suc (suc z)) a b c = absurd (omega arith)
or_bits (suc zero) (suc (suc y)) z a b c = absurd (omega arith)
or_bits (suc (suc x)) y z a b c = absurd (omega arith)

from_half : (x y : ℕ) → x / 2 ≡ y / 2 → x % 2 ≡ y % 2 → x ≡ y
from_half x y e f = omega arith

or_assoc_below : (n x y z : ℕ) → x ≤ n → y ≤ n → z ≤ n → bit_or (bit_or x y) z ≡ bit_or x (bit_or y z)
or_assoc_below zero x y z a b c =
    let e : x ≡ 0 = omega arith in
    let f : y ≡ 0 = omega arith in
    let g : z ≡ 0 = omega arith in
    rw (e, f, g) refl
or_assoc_below (suc n) x y z a b c =
    from_half (bit_or (bit_or x y) z) (bit_or x (bit_or y z))
    (or_shr (bit_or x y) z 1
    ∙ ap (λ t. bit_or t (z / 2)) (or_shr x y 1)
    ∙ or_assoc_below n (x / 2) (y / 2) (z / 2) (omega arith) (omega arith) (omega arith)
    ∙ ap (λ t. bit_or (x / 2) t) (sym (or_shr y z 1))
    ∙ sym (or_shr x (bit_or y z) 1))
    (or_mod (bit_or x y) z 1
    ∙ ap (λ t. bit_or t (z % 2)) (or_mod x y 1)
    ∙ or_bits (x % 2) (y % 2) (z % 2) (omega arith) (omega arith) (omega arith)
    ∙ ap (λ t. bit_or (x % 2) t) (sym (or_mod y z 1))
    ∙ sym (or_mod x (bit_or y z) 1))

pub or_free : IsFree Or
unfolding apply_of
or_free =
    record {
      turning = refl;
      comm = λ x y a b. or_comm x y;
      assoc = λ x y z. or_assoc_below (x + y + z) x y z (omega arith) (omega arith) (omega arith);
    }

-- ---- the less and the greater of two words by their rank

module _ (r : ℕ → ℕ) where
  abbrev least : ℕ → ℕ → ℕ
  least a b = cond (nat_lt (r b) (r a)) b a

  least_right : (a b : ℕ) → r b < r a → least a b ≡ b
  least_right a b l = rw (lt-ltb (r b) (r a) l) refl

  least_left : (a b : ℕ) → r a ≤ r b → least a b ≡ a
  least_left a b l = rw (le-ltb (r b) (r a) l) refl

  pub least_assoc : (x y z : ℕ) → cond (nat_lt (r z) (r (cond (nat_lt (r y) (r x)) y x))) z (cond (nat_lt (r y) (r x)) y x) ≡ cond (nat_lt (r (cond (nat_lt (r z) (r y)) z y)) (r x)) (cond (nat_lt (r z) (r y)) z y) x
  least_assoc x y z =
      ⊎_elim
      (λ (a : r y < r x).
      ⊎_elim
      (λ (b : r z < r y).
      let c : r z < r x = omega arith in
      ap (λ t. least t z) (least_right x y a) ∙ least_right y z b ∙ sym (least_right x z c) ∙ ap (least x) (sym (least_right y z b)))
      (λ (b : r y ≤ r z).
      ap (λ t. least t z) (least_right x y a) ∙ least_left y z b ∙ sym (least_right x y a) ∙ ap (least x) (sym (least_left y z b)))
      (cases_lt (r z) (r y)))
      (λ (a : r x ≤ r y).
      ⊎_elim
      (λ (b : r z < r y). ap (λ t. least t z) (least_left x y a) ∙ ap (least x) (sym (least_right y z b)))
      (λ (b : r y ≤ r z).
      let c : r x ≤ r z = omega arith in
      ap (λ t. least t z) (least_left x y a) ∙ least_left x z c ∙ sym (least_left x y a) ∙ ap (least x) (sym (least_left y z b)))
      (cases_lt (r z) (r y)))
      (cases_lt (r y) (r x))

  pub least_comm : (x y : ℕ) → (r x ≡ r y → x ≡ y) → cond (nat_lt (r y) (r x)) y x ≡ cond (nat_lt (r x) (r y)) x y
  least_comm x y one =
      ⊎_elim
      (λ (a : r y < r x). least_right x y a ∙ sym (least_left y x (omega arith)))
      (λ (a : r x ≤ r y).
      least_left x y a
      ∙ ⊎_elim
      (λ (b : r x < r y). sym (least_right y x b))
      (λ (b : r y ≤ r x). let e : r x ≡ r y = omega arith in one e ∙ sym (least_left y x b))
      (cases_lt (r x) (r y)))
      (cases_lt (r y) (r x))

  abbrev most : ℕ → ℕ → ℕ
  most a b = cond (nat_lt (r a) (r b)) b a

  most_right : (a b : ℕ) → r a < r b → most a b ≡ b
  most_right a b l = rw (lt-ltb (r a) (r b) l) refl

  most_left : (a b : ℕ) → r b ≤ r a → most a b ≡ a
  most_left a b l = rw (le-ltb (r a) (r b) l) refl

  pub most_assoc : (x y z : ℕ) → cond (nat_lt (r (cond (nat_lt (r x) (r y)) y x)) (r z)) z (cond (nat_lt (r x) (r y)) y x) ≡ cond (nat_lt (r x) (r (cond (nat_lt (r y) (r z)) z y))) (cond (nat_lt (r y) (r z)) z y) x
  most_assoc x y z =
      ⊎_elim
      (λ (a : r x < r y).
      ⊎_elim
      (λ (b : r y < r z).
      let c : r x < r z = omega arith in
      ap (λ t. most t z) (most_right x y a) ∙ most_right y z b ∙ sym (most_right x z c) ∙ ap (most x) (sym (most_right y z b)))
      (λ (b : r z ≤ r y).
      ap (λ t. most t z) (most_right x y a) ∙ most_left y z b ∙ sym (most_right x y a) ∙ ap (most x) (sym (most_left y z b)))
      (cases_lt (r y) (r z)))
      (λ (a : r y ≤ r x).
      ⊎_elim
      (λ (b : r y < r z). ap (λ t. most t z) (most_left x y a) ∙ ap (most x) (sym (most_right y z b)))
      (λ (b : r z ≤ r y).
      let c : r z ≤ r x = omega arith in
      ap (λ t. most t z) (most_left x y a) ∙ most_left x z c ∙ sym (most_left x y a) ∙ ap (most x) (sym (most_left y z b)))
      (cases_lt (r y) (r z)))
      (cases_lt (r x) (r y))

  pub most_comm : (x y : ℕ) → (r x ≡ r y → x ≡ y) → cond (nat_lt (r x) (r y)) y x ≡ cond (nat_lt (r y) (r x)) x y
  most_comm x y one =
      ⊎_elim
      (λ (a : r x < r y). most_right x y a ∙ sym (most_left y x (omega arith)))
      (λ (a : r y ≤ r x).
      most_left x y a
      ∙ ⊎_elim
      (λ (b : r y < r x). sym (most_right y x b))
      (λ (b : r x ≤ r y). let e : r x ≡ r y = omega arith in one e ∙ sym (most_left y x b))
      (cases_lt (r y) (r x)))
      (cases_lt (r x) (r y))

one_rank : (x y : ℕ) → x < words → y < words → rank x ≡ rank y → x ≡ y
one_rank x y a b e = omega arith

pub mins_free : IsFree Mins
unfolding apply_of
mins_free =
    record {
      turning = refl;
      comm = λ x y a b. least_comm rank x y (one_rank x y a b);
      assoc = λ x y z. least_assoc rank x y z;
    }

pub maxs_free : IsFree Maxs
unfolding apply_of
maxs_free =
    record {
      turning = refl;
      comm = λ x y a b. most_comm rank x y (one_rank x y a b);
      assoc = λ x y z. most_assoc rank x y z;
    }

pub free_of : (op : Op) → is_free op ≡ true → IsFree op
free_of Add h = add_free
free_of Mul h = mul_free
free_of And h = and_free
free_of Or h = or_free
free_of Xor h = xor_free
free_of Mins h = mins_free
free_of Maxs h = maxs_free
free_of _ h = absurd (cc)

-- ---- the rows

pub alike_at : (v w : Op) (i k : ℕ) (u x : Op) (j l : ℕ) (r : Row) → v ≡ w → i ≡ k → u ≡ x → j ≡ l → AreAlike w k x l r → AreAlike v i u j r
alike_at v w i k u x j l r a b c d h = rw (a, b, c, d) h

small : (op : Op) (x y : ℕ) → x < words → y < words → apply_of op x y 0 < words
small op x y a b = let h = value_small op x y 0 a b (omega arith) in omega arith

module _ (op : Op) (free : IsFree op) where
  free_same : (i j p a b : ℕ) → p < words → a < words → b < words → joined op 0 p (joined op 0 a b) ≡ joined op i (joined op j p a) b
  free_same zero zero p a b x y z = sym (free.assoc p a b)
  free_same zero (suc j) p a b x y z = sym (free.assoc p a b) ∙ ap (λ t. apply_of op t b 0) (free.comm p a x y)
  free_same (suc i) zero p a b x y z = sym (free.assoc p a b) ∙ free.comm (apply_of op p a 0) b (small op p a x y) z
  free_same (suc i) (suc j) p a b x y z =
      sym (free.assoc p a b) ∙ free.comm (apply_of op p a 0) b (small op p a x y) z ∙ ap (λ t. apply_of op b t 0) (free.comm p a x y)

  pub free_alike : (i j : ℕ) → AreAlike op i op j (record { first = op; place_of_a = 0; second = op; place_of_p = 0 })
  free_alike i j =
      record { given_u = free.turning; given_v = free.turning; first = free.turning; second = free.turning; alike = free_same i j }

sum_less : (j p a b : ℕ) → b < words → joined Add 0 p (joined Sub 0 a b) ≡ joined Sub 0 (joined Add j p a) b
unfolding apply_of
sum_less zero p a b l = add_less words p a b (omega arith)
sum_less (suc j) p a b l = add_less words p a b (omega arith) ∙ ap (λ t. (t % words + words - b) % words) (add_comm p a)

pub sum_less_alike : (j : ℕ) → AreAlike Sub 0 Add j (record { first = Sub; place_of_a = 0; second = Add; place_of_p = 0 })
sum_less_alike j = record { given_u = refl; given_v = refl; first = refl; second = refl; alike = λ p a b x y z. sum_less j p a b z }

less_sum : (i p a b : ℕ) → a < words → joined Add 0 p (joined Sub 1 a b) ≡ joined Add i (joined Sub 0 p a) b
unfolding apply_of
less_sum zero p a b l = less_add words p a b (omega arith)
less_sum (suc i) p a b l = less_add words p a b (omega arith) ∙ ap (λ t. t % words) (add_comm ((p + words - a) % words) b)

pub less_sum_alike : (i : ℕ) → AreAlike Add i Sub 0 (record { first = Sub; place_of_a = 1; second = Add; place_of_p = 0 })
less_sum_alike i = record { given_u = refl; given_v = refl; first = refl; second = refl; alike = λ p a b x y z. less_sum i p a b y }

from_sum : (i p a b : ℕ) → p < words → joined Sub 1 p (joined Add 0 a b) ≡ joined Add i (joined Sub 1 p a) b
unfolding apply_of
from_sum zero p a b l = from_add words p a b (omega arith)
from_sum (suc i) p a b l = from_add words p a b (omega arith) ∙ ap (λ t. t % words) (add_comm ((a + words - p) % words) b)

pub from_sum_alike : (i : ℕ) → AreAlike Add i Sub 1 (record { first = Add; place_of_a = 0; second = Sub; place_of_p = 1 })
from_sum_alike i = record { given_u = refl; given_v = refl; first = refl; second = refl; alike = λ p a b x y z. from_sum i p a b x }

from_difference : (p a b : ℕ) → p < words → b < words → joined Sub 1 p (joined Sub 0 a b) ≡ joined Sub 0 (joined Sub 1 p a) b
unfolding apply_of
from_difference p a b l m = from_less words p a b (omega arith) (omega arith)

pub from_difference_alike : AreAlike Sub 0 Sub 1 (record { first = Sub; place_of_a = 0; second = Sub; place_of_p = 1 })
from_difference_alike = record { given_u = refl; given_v = refl; first = refl; second = refl; alike = λ p a b x y z. from_difference p a b x z }
