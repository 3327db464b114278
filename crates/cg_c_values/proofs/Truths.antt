-- Operations that give 0 or 1, and groups of operations.
use Rattle.std.proofs.Common.{◌≡◌, ◌⊎◌, ℕ, ◌/◌, ◌<◌, ◌≤◌, Bool, true, false, cond, nat_lt, sym, subst, arith, ⊎_elim}
use Rattle.std.proofs.lemmas.Nat.{and_le_l, and_le_r, or_lt, xor_lt}
use Rattle.cg_word.specs.declared.op.Op.{Op}
use Rattle.cg_word.specs.declared.op.Op.TheVariants.{Add, Sub, Mul, And, Or, Xor, Shl, Shr, Sar, Eq, Ne, Lts, Ltu, Mins, Maxs, Select}
use Rattle.cg_word.specs.Word.{apply_of, one_if, words}
use Rattle.cg_c_values.specs.Plans.{Commutes, IsStep}
use Rattle.cg_c_values.proofs.Adding.{add_exchanged, add_zero, mul_exchanged, sub_zero}
use Rattle.cg_c_values.proofs.Bits.{and_exchanged, or_exchanged, or_zero, xor_exchanged, xor_zero}
use Rattle.cg_c_values.proofs.Comparing.{eq_exchanged, maxs_exchanged, maxs_itself, mins_exchanged, mins_itself, ne_exchanged}
use Rattle.cg_c_values.proofs.Shifting.{step_shift}

-- ---- truths

one_or_none : (t : Bool) → one_if t ≤ 1
one_or_none true = omega arith
one_or_none false = omega arith

none_or_one : (t : Bool) → cond t 0 1 ≤ 1
none_or_one true = omega arith
none_or_one false = omega arith

test_eq : (x y : ℕ) → apply_of Eq x y 0 ≤ 1
unfolding apply_of
test_eq x y = one_or_none _

test_ne : (x y : ℕ) → apply_of Ne x y 0 ≤ 1
unfolding apply_of
test_ne x y = none_or_one _

test_lts : (x y : ℕ) → apply_of Lts x y 0 ≤ 1
unfolding apply_of
test_lts x y = one_or_none _

test_ltu : (x y : ℕ) → apply_of Ltu x y 0 ≤ 1
unfolding apply_of
test_ltu x y = one_or_none _

pub test_truth : (op : Op) → (op ≡ Eq) ⊎ ((op ≡ Ne) ⊎ ((op ≡ Lts) ⊎ (op ≡ Ltu))) → (x y : ℕ) → apply_of op x y 0 ≤ 1
test_truth op h x y =
    ⊎_elim (λ e. subst (λ o. apply_of o x y 0 ≤ 1) (sym e) (test_eq x y))
    (λ g. ⊎_elim (λ e. subst (λ o. apply_of o x y 0 ≤ 1) (sym e) (test_ne x y))
    (λ k. ⊎_elim (λ e. subst (λ o. apply_of o x y 0 ≤ 1) (sym e) (test_lts x y)) (λ e. subst (λ o. apply_of o x y 0 ≤ 1) (sym e) (test_ltu x y)) k) g) h

pub and_truth_first : (op : Op) (x y : ℕ) → op ≡ And → x ≤ 1 → apply_of op x y 0 ≤ 1
unfolding apply_of
and_truth_first op x y e l = subst (λ o. apply_of o x y 0 ≤ 1) (sym e) (let h = and_le_l x y in omega arith)

pub and_truth_second : (op : Op) (x y : ℕ) → op ≡ And → y ≤ 1 → apply_of op x y 0 ≤ 1
unfolding apply_of
and_truth_second op x y e l = subst (λ o. apply_of o x y 0 ≤ 1) (sym e) (let h = and_le_r x y in omega arith)

pub either_truth : (op : Op) (x y : ℕ) → (op ≡ Or) ⊎ (op ≡ Xor) → x ≤ 1 → y ≤ 1 → apply_of op x y 0 ≤ 1
unfolding apply_of
either_truth op x y h l m =
    ⊎_elim (λ e. subst (λ o. apply_of o x y 0 ≤ 1) (sym e) (let k = or_lt 1 x y (omega arith) (omega arith) in omega arith))
    (λ e. subst (λ o. apply_of o x y 0 ≤ 1) (sym e) (let k = xor_lt 1 x y (omega arith) (omega arith) in omega arith)) h

pub shr_truth : (op : Op) (x y : ℕ) → op ≡ Shr → x < words → y ≡ 31 → apply_of op x y 0 ≤ 1
unfolding apply_of
shr_truth op x y e l m = subst (λ o. apply_of o x y 0 ≤ 1) (sym e) (subst (λ z. apply_of Shr x z 0 ≤ 1) (sym m) (let h : x / 2147483648 ≤ 1 = omega arith in h))

pub chosen_truth : (c a b : ℕ) → a ≤ 1 → b ≤ 1 → apply_of Select c a b ≤ 1
unfolding apply_of
chosen_truth c a b l m = by (nat_lt 0 c)
  where
    by : (t : Bool) → cond t a b ≤ 1
    by true = l
    by false = m

-- ---- groups

pub steps : (op : Op) → (op ≡ Add) ⊎ ((op ≡ Sub) ⊎ ((op ≡ Xor) ⊎ ((op ≡ Or) ⊎ ((op ≡ Shl) ⊎ ((op ≡ Shr) ⊎ (op ≡ Sar)))))) → IsStep op
steps op h =
    ⊎_elim (λ e. subst IsStep (sym e) add_zero)
    (λ g. ⊎_elim (λ e. subst IsStep (sym e) sub_zero)
    (λ g. ⊎_elim (λ e. subst IsStep (sym e) (λ a l. sym (xor_zero a)))
    (λ g. ⊎_elim (λ e. subst IsStep (sym e) (λ a l. sym (or_zero a)))
    (λ g. ⊎_elim (λ e. subst IsStep (sym e) (λ a l. step_shift Shl a tt l))
    (λ g. ⊎_elim (λ e. subst IsStep (sym e) (λ a l. step_shift Shr a tt l)) (λ e. subst IsStep (sym e) (λ a l. step_shift Sar a tt l)) g) g) g) g) g) h

pub exchanges : (op : Op) → (op ≡ Add) ⊎ ((op ≡ Mul) ⊎ ((op ≡ And) ⊎ ((op ≡ Or) ⊎ ((op ≡ Xor) ⊎ ((op ≡ Eq) ⊎ ((op ≡ Ne) ⊎ ((op ≡ Mins) ⊎ (op ≡ Maxs)))))))) → Commutes op
exchanges op h =
    ⊎_elim (λ e. subst Commutes (sym e) (λ a b l m. add_exchanged a b))
    (λ g. ⊎_elim (λ e. subst Commutes (sym e) (λ a b l m. mul_exchanged a b))
    (λ g. ⊎_elim (λ e. subst Commutes (sym e) (λ a b l m. and_exchanged a b))
    (λ g. ⊎_elim (λ e. subst Commutes (sym e) (λ a b l m. or_exchanged a b))
    (λ g. ⊎_elim (λ e. subst Commutes (sym e) (λ a b l m. xor_exchanged a b))
    (λ g. ⊎_elim (λ e. subst Commutes (sym e) (λ a b l m. eq_exchanged a b))
    (λ g. ⊎_elim (λ e. subst Commutes (sym e) (λ a b l m. ne_exchanged a b))
    (λ g. ⊎_elim (λ e. subst Commutes (sym e) mins_exchanged) (λ e. subst Commutes (sym e) maxs_exchanged) g) g) g) g) g) g) g) h

pub extreme_itself : (op : Op) (x : ℕ) → (op ≡ Mins) ⊎ (op ≡ Maxs) → x ≡ apply_of op x x 0
extreme_itself op x h =
    ⊎_elim (λ e. subst (λ o. x ≡ apply_of o x x 0) (sym e) (mins_itself x)) (λ e. subst (λ o. x ≡ apply_of o x x 0) (sym e) (maxs_itself x)) h
