-- Identities of shifts of words.
use Rattle.std.proofs.Common.{◌≡◌, ℕ, ◌+◌, ◌-◌, ◌*◌, ◌/◌, ◌%◌, ◌^◌, ◌<◌, ◌≤◌, Bool, true, false, nat_lt, cond, refl, sym, ap, ◌∙◌, subst, arith, ⊎_elim}
use Rattle.std.proofs.Math.Nat.{mod-eq_of_lt, mul_assoc, zero-mul, zero-div, mul-mod_left, mul_comm}
use Rattle.std.proofs.lemmas.Bool.{cases_lt, lt-ltb, le-ltb}
use Rattle.std.proofs.lemmas.Nat.{mul-mod_first, pow-add, shr-shr, shr_le}
use Rattle.cg_word.specs.declared.op.Op.{Op}
use Rattle.cg_word.specs.declared.op.Op.TheVariants.{Shl, Shr, Sar}
use Rattle.cg_word.specs.Word.{apply_of, sar, words}
use Rattle.cg_c_values.specs.Plans.{IsShift}
use Rattle.cg_c_values.specs.Values.{is_plain}

-- ---- by a number of bits

shl : ℕ → ℕ → ℕ
shl x b = (x * 2 ^ b) % words

sar_low : (x b : ℕ) → x < 2 ^ 31 → sar x b ≡ x / 2 ^ b
sar_low x b l = ap (λ t. cond t (x / 2 ^ b) (words - 1 - (words - 1 - x) / 2 ^ b)) (lt-ltb x (2 ^ 31) l)

sar_high : (x b : ℕ) → 2 ^ 31 ≤ x → sar x b ≡ words - 1 - (words - 1 - x) / 2 ^ b
sar_high x b l = ap (λ t. cond t (x / 2 ^ b) (words - 1 - (words - 1 - x) / 2 ^ b)) (le-ltb x (2 ^ 31) l)

shl_sum : (x b c : ℕ) → (x * 2 ^ (b + c)) % words ≡ ((x * 2 ^ b) % words * 2 ^ c) % words
shl_sum x b c =
    ap (λ z. (x * z) % words) (pow-add 2 b c) ∙ ap (λ z. z % words) (sym (mul_assoc x (2 ^ b) (2 ^ c))) ∙ sym (mul-mod_first (x * 2 ^ b) (2 ^ c) words)

sar_sum : (x b c : ℕ) → x < words → sar x (b + c) ≡ sar (sar x b) c
sar_sum x b c l =
    ⊎_elim
    (λ (h : x < 2 ^ 31).
    let less = shr_le x b in
    sar_low x (b + c) h ∙ sym (ap (λ z. sar z c) (sar_low x b h) ∙ sar_low (x / 2 ^ b) c (omega arith) ∙ shr-shr x b c))
    (λ (h : 2 ^ 31 ≤ x).
    let y = words - 1 - x in
    let less : y / 2 ^ b ≤ y = shr_le y b in
    let back : words - 1 - (words - 1 - y / 2 ^ b) ≡ y / 2 ^ b = omega arith in
    sar_high x (b + c) h
    ∙ sym (ap (λ z. sar z c) (sar_high x b h) ∙ sar_high (words - 1 - y / 2 ^ b) c (omega arith)
    ∙ ap (λ z. words - 1 - z / 2 ^ c) back ∙ ap (λ z. words - 1 - z) (shr-shr y b c)))
    (cases_lt x (2 ^ 31))

-- where all bits are shifted out
shl_far : (x m : ℕ) → (x * 2 ^ (32 + m)) % words ≡ 0
shl_far x m = ap (λ z. (x * z) % words) (pow-add 2 32 m ∙ mul_comm (2 ^ 32) (2 ^ m)) ∙ ap (λ z. z % words) (sym (mul_assoc x (2 ^ m) words)) ∙ mul-mod_left (x * 2 ^ m) words

shr_far : (x k m : ℕ) → x / 2 ^ k ≡ 0 → x / 2 ^ (k + m) ≡ 0
shr_far x k m e = sym (shr-shr x k m) ∙ ap (λ z. z / 2 ^ m) e ∙ zero-div (2 ^ m)

sar_far : (x m : ℕ) → x < words → sar x 31 ≡ sar x (31 + m)
sar_far x m l =
    ⊎_elim
    (λ (h : x < 2 ^ 31).
    let none : x / 2 ^ 31 ≡ 0 = omega arith in
    sar_low x 31 h ∙ none ∙ sym (sar_low x (31 + m) h ∙ shr_far x 31 m none))
    (λ (h : 2 ^ 31 ≤ x).
    let none : (words - 1 - x) / 2 ^ 31 ≡ 0 = omega arith in
    sar_high x 31 h ∙ ap (λ z. words - 1 - z) none ∙ sym (sar_high x (31 + m) h ∙ ap (λ z. words - 1 - z) (shr_far (words - 1 - x) 31 m none)))
    (cases_lt x (2 ^ 31))

-- ---- by whole words, and of 0

shl_none : (x b : ℕ) → x < words → b % 32 ≡ 0 → apply_of Shl x b 0 ≡ x
unfolding apply_of
shl_none x b l e = ap (λ k. (x * 2 ^ k) % words) e ∙ (let z : (x * 1) % words ≡ x = omega arith in z)

shr_none : (x b : ℕ) → b % 32 ≡ 0 → apply_of Shr x b 0 ≡ x
unfolding apply_of
shr_none x b e = ap (λ k. x / 2 ^ k) e ∙ (let z : x / 1 ≡ x = omega arith in z)

sar_none : (x b : ℕ) → x < words → b % 32 ≡ 0 → apply_of Sar x b 0 ≡ x
unfolding apply_of
sar_none x b l e = ap (sar x) e ∙ by (nat_lt x (2 ^ 31))
  where
    by : (t : Bool) → cond t (x / 1) (words - 1 - (words - 1 - x) / 1) ≡ x
    by true = omega arith
    by false = omega arith

pub shift_none : (op : Op) (x b : ℕ) → IsShift op → x < words → b % 32 ≡ 0 → x ≡ apply_of op x b 0
shift_none Shl x b s l e = sym (shl_none x b l e)
shift_none Shr x b s l e = sym (shr_none x b e)
shift_none Sar x b s l e = sym (sar_none x b l e)
shift_none _ x b s l e = absurd s

pub shift_plain : (op : Op) → IsShift op → is_plain op ≡ true
shift_plain Shl s = refl
shift_plain Shr s = refl
shift_plain Sar s = refl
shift_plain _ s = absurd s

pub step_shift : (op : Op) (x : ℕ) → IsShift op → x < words → apply_of op x 0 0 ≡ x
step_shift op x s l = sym (shift_none op x 0 s l refl)

pub shift_rest : (op : Op) (x b : ℕ) → IsShift op → apply_of op x (b % 32) 0 ≡ apply_of op x b 0
unfolding apply_of
shift_rest Shl x b s = ap (λ k. (x * 2 ^ k) % words) (mod-eq_of_lt (omega arith))
shift_rest Shr x b s = ap (λ k. x / 2 ^ k) (mod-eq_of_lt (omega arith))
shift_rest Sar x b s = ap (sar x) (mod-eq_of_lt (omega arith))
shift_rest _ x b s = absurd s

pub shift_zero : (op : Op) (b : ℕ) → IsShift op → 0 ≡ apply_of op 0 b 0
unfolding apply_of
shift_zero Shl b s = sym (ap (λ z. z % words) (zero-mul (2 ^ (b % 32))))
shift_zero Shr b s = sym (zero-div (2 ^ (b % 32)))
shift_zero Sar b s = sym (zero-div (2 ^ (b % 32)))
shift_zero _ b s = absurd s

-- ---- two shifts in a row

-- the two are one, by the sum of their bits
pub shift_twice : (op : Op) (x b c n : ℕ) → IsShift op → x < words → b < 32 → c < 32 → b + c ≡ n → n < 32 → apply_of op x n 0 ≡ apply_of op (apply_of op x b 0) c 0
unfolding apply_of
shift_twice Shl x b c n s l m k e h = rw (← e, mod-eq_of_lt m, mod-eq_of_lt k, mod-eq_of_lt (subst (λ z. z < 32) (sym e) h)) (shl_sum x b c)
shift_twice Shr x b c n s l m k e h = rw (← e, mod-eq_of_lt m, mod-eq_of_lt k, mod-eq_of_lt (subst (λ z. z < 32) (sym e) h)) (sym (shr-shr x b c))
shift_twice Sar x b c n s l m k e h = rw (← e, mod-eq_of_lt m, mod-eq_of_lt k, mod-eq_of_lt (subst (λ z. z < 32) (sym e) h)) (sar_sum x b c l)
shift_twice _ x b c n s l m k e h = absurd s

-- nothing is left where they shift out all bits
pub shl_out : (x b c n : ℕ) → b < 32 → c < 32 → b + c ≡ n → 32 ≤ n → 0 ≡ apply_of Shl (apply_of Shl x b 0) c 0
unfolding apply_of
shl_out x b c n m k e h =
    let far : 32 + (n - 32) ≡ b + c = omega arith in
    rw (mod-eq_of_lt m, mod-eq_of_lt k) (sym (shl_far x (n - 32)) ∙ ap (λ z. (x * 2 ^ z) % words) far ∙ shl_sum x b c)

pub shr_out : (x b c n : ℕ) → x < words → b < 32 → c < 32 → b + c ≡ n → 32 ≤ n → 0 ≡ apply_of Shr (apply_of Shr x b 0) c 0
unfolding apply_of
shr_out x b c n l m k e h =
    let far : 32 + (n - 32) ≡ b + c = omega arith in
    let none : x / 2 ^ 32 ≡ 0 = omega arith in
    rw (mod-eq_of_lt m, mod-eq_of_lt k) (sym (shr_far x 32 (n - 32) none) ∙ ap (λ z. x / 2 ^ z) far ∙ sym (shr-shr x b c))

-- the sign alone is left
pub sar_out : (x b c n : ℕ) → x < words → b < 32 → c < 32 → b + c ≡ n → 32 ≤ n → apply_of Sar x 31 0 ≡ apply_of Sar (apply_of Sar x b 0) c 0
unfolding apply_of
sar_out x b c n l m k e h =
    let far : 31 + (n - 31) ≡ b + c = omega arith in
    rw (mod-eq_of_lt m, mod-eq_of_lt k) (sar_far x (n - 31) l ∙ ap (sar x) far ∙ sar_sum x b c l)

-- nothing is left, where no sign is
pub others_out : (op : Op) (x b c n : ℕ) → IsShift op → (op ≡ Sar → ⊥) → x < words → b < 32 → c < 32 → b + c ≡ n → 32 ≤ n → 0 ≡ apply_of op (apply_of op x b 0) c 0
others_out Shl x b c n s others l m k e h = shl_out x b c n m k e h
others_out Shr x b c n s others l m k e h = shr_out x b c n l m k e h
others_out Sar x b c n s others l m k e h = absurd (others refl)
others_out _ x b c n s others l m k e h = absurd s

pub signs_out : (op : Op) (x b c n : ℕ) → op ≡ Sar → x < words → b < 32 → c < 32 → b + c ≡ n → 32 ≤ n → apply_of op x 31 0 ≡ apply_of op (apply_of op x b 0) c 0
signs_out op x b c n is l m k e h = subst (λ o. apply_of o x 31 0 ≡ apply_of o (apply_of o x b 0) c 0) (sym is) (sar_out x b c n l m k e h)
