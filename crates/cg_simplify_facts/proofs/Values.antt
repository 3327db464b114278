-- The values of operations on words of which something is known.
use Rattle.std.proofs.Common.{◌≡◌, ℕ, zero, suc, ◌+◌, ◌-◌, ◌*◌, ◌/◌, ◌%◌, ◌^◌, ◌≢◌, ◌<◌, ◌≤◌, ◌⊎◌, max, min, Bool, true, false, cond, nat_lt, [], ◌∷◌, Option, Some, None, IfSome, inl, inr, refl, sym, ap, ◌∙◌, subst, arith, ⊎_elim}
use Rattle.std.specs.Prelude.{eqb, bit_and, slice_index}
use Rattle.std.specs.Int.Bits.{or_self, or_zero_r, xor_self, xor_zero_r}
use Rattle.std.proofs.Math.Nat.{add-mod_right, div-mul-le_self, div-one, div-le_self, mod-eq_of_lt, mod-le, mod-lt, mod_self, mul-le-mul_left, mul-le-mul_right}
use Rattle.std.proofs.lemmas.Bool.{eq-eqb, lt-ltb, le-ltb}
use Rattle.std.proofs.lemmas.Bool.Decides.{eqb_tells}
use Rattle.std.proofs.lemmas.Nat.{and_le_l, and_le_r, and_assoc, and_comm, and_mask, le-div, or_lt, pow_pos, xor_lt}
use Rattle.cg_word.specs.declared.op.Op.{Op}
use Rattle.cg_word.specs.declared.op.Op.TheVariants.{Const, Iter, Input, Add, Sub, Mul, And, Or, Xor, Shl, Shr, Sar, Eq, Ne, Lts, Ltu, Mins, Maxs, Select, Load, Store, Output, LoadIf, StoreIf, OutputIf}
use Rattle.cg_word.specs.Word.{apply_of, arity, rank, sar, words, one_if}
use Rattle.cg_simplify_facts.specs.Facts.{Fact, Fits}
use Rattle.cg_simplify_facts.specs.Cases.{IsBeside, IsCover, IsSelected, IsTruthBeside, IsUnmasked}

-- a word that is known
pub known : (f : Fact) (x w : ℕ) → Fits f x → f.word ≡ Some w → x ≡ w
known f x w fits e = subst (λ (o : Option ℕ). IfSome o (λ v. x ≡ v)) e fits.word

-- ---- the value is an operand

pub sum_beside : (p x y z : ℕ) → x < words → y < words → IsBeside 0 p x y → apply_of Add x y z ≡ slice_index (x ∷ y ∷ z ∷ []) p
unfolding apply_of
sum_beside p x y z a b (inl h) = rw (h.0, h.1) (ap (λ t. t % words) (let e : 0 + y ≡ y = omega arith in e) ∙ mod-eq_of_lt b)
sum_beside p x y z a b (inr h) = rw (h.0, h.1) (ap (λ t. t % words) (let e : x + 0 ≡ x = omega arith in e) ∙ mod-eq_of_lt a)

pub or_beside : (p x y z : ℕ) → IsBeside 0 p x y → apply_of Or x y z ≡ slice_index (x ∷ y ∷ z ∷ []) p
unfolding apply_of
or_beside p x y z (inl h) = rw (h.0, h.1) refl
or_beside p x y z (inr h) = rw (h.0, h.1) (or_zero_r x)

pub xor_beside : (p x y z : ℕ) → IsBeside 0 p x y → apply_of Xor x y z ≡ slice_index (x ∷ y ∷ z ∷ []) p
unfolding apply_of
xor_beside p x y z (inl h) = rw (h.0, h.1) refl
xor_beside p x y z (inr h) = rw (h.0, h.1) (xor_zero_r x)

pub mul_beside : (p x y z : ℕ) → x < words → y < words → IsBeside 1 p x y → apply_of Mul x y z ≡ slice_index (x ∷ y ∷ z ∷ []) p
unfolding apply_of
mul_beside p x y z a b (inl h) = rw (h.0, h.1) (ap (λ t. t % words) (let e : 1 * y ≡ y = omega arith in e) ∙ mod-eq_of_lt b)
mul_beside p x y z a b (inr h) = rw (h.0, h.1) (ap (λ t. t % words) (let e : x * 1 ≡ x = omega arith in e) ∙ mod-eq_of_lt a)

pub less_zero : (p x y z : ℕ) → x < words → (p ≡ 0) × (y ≡ 0) → apply_of Sub x y z ≡ slice_index (x ∷ y ∷ z ∷ []) p
unfolding apply_of
less_zero p x y z a h = rw (h.0, h.1) (ap (λ t. t % words) (let e : x + words - 0 ≡ x + words = omega arith in e) ∙ add-mod_right x words ∙ mod-eq_of_lt a)

pub shl_none : (p x y z : ℕ) → x < words → (p ≡ 0) × (y % 32 ≡ 0) → apply_of Shl x y z ≡ slice_index (x ∷ y ∷ z ∷ []) p
unfolding apply_of
shl_none p x y z a h = rw (h.0, h.1) (ap (λ t. t % words) (let e : x * 1 ≡ x = omega arith in e) ∙ mod-eq_of_lt a)

pub shr_none : (p x y z : ℕ) → (p ≡ 0) × (y % 32 ≡ 0) → apply_of Shr x y z ≡ slice_index (x ∷ y ∷ z ∷ []) p
unfolding apply_of
shr_none p x y z h = rw (h.0, h.1) (div-one x)

sar_zero : (x : ℕ) → x < words → sar x 0 ≡ x
sar_zero x a = by (nat_lt x (2 ^ 31))
  where
    by : (b : Bool) → cond b (x / 1) (words - 1 - (words - 1 - x) / 1) ≡ x
    by true = div-one x
    by false = ap (λ t. words - 1 - t) (div-one (words - 1 - x)) ∙ omega (arith, a)

pub sar_none : (p x y z : ℕ) → x < words → (p ≡ 0) × (y % 32 ≡ 0) → apply_of Sar x y z ≡ slice_index (x ∷ y ∷ z ∷ []) p
unfolding apply_of
sar_none p x y z a h = rw (h.0, h.1) (sar_zero x a)

pub and_unmasked : (p x y z : ℕ) → IsUnmasked p x y → apply_of And x y z ≡ slice_index (x ∷ y ∷ z ∷ []) p
unfolding apply_of
and_unmasked p x y z (inl h) = rw h.0 h.1
and_unmasked p x y z (inr h) = rw h.0 h.1

pub or_equal : (p x y z : ℕ) → (p ≡ 0) × (x ≡ y) → apply_of Or x y z ≡ slice_index (x ∷ y ∷ z ∷ []) p
unfolding apply_of
or_equal p x y z h = rw (h.0, h.1) (or_self y)

pub or_kept : (p x y z : ℕ) → IsBeside 0 p x y ⊎ ((p ≡ 0) × (x ≡ y)) → apply_of Or x y z ≡ slice_index (x ∷ y ∷ z ∷ []) p
or_kept p x y z (inl h) = or_beside p x y z h
or_kept p x y z (inr h) = or_equal p x y z h

same_choice : (b : Bool) (y : ℕ) → cond b y y ≡ y
same_choice true y = refl
same_choice false y = refl

pub mins_equal : (p x y z : ℕ) → (p ≡ 0) × (x ≡ y) → apply_of Mins x y z ≡ slice_index (x ∷ y ∷ z ∷ []) p
unfolding apply_of
mins_equal p x y z h = rw (h.0, h.1) (same_choice (nat_lt (rank y) (rank y)) y)

pub maxs_equal : (p x y z : ℕ) → (p ≡ 0) × (x ≡ y) → apply_of Maxs x y z ≡ slice_index (x ∷ y ∷ z ∷ []) p
unfolding apply_of
maxs_equal p x y z h = rw (h.0, h.1) (same_choice (nat_lt (rank y) (rank y)) y)

bits : (x : ℕ) → x ≤ 1 → (x ≡ 0) ⊎ (x ≡ 1)
bits zero l = inl refl
bits (suc zero) l = inr refl
bits (suc (suc x)) l = absurd (omega arith)

pub ne_truth : (p x y z : ℕ) → IsTruthBeside 0 p x y → apply_of Ne x y z ≡ slice_index (x ∷ y ∷ z ∷ []) p
unfolding apply_of
ne_truth p x y z (inl h) = ⊎_elim (λ (e : y ≡ 0). rw (h.0, h.1, e) refl) (λ (e : y ≡ 1). rw (h.0, h.1, e) refl) (bits y h.2)
ne_truth p x y z (inr h) = ⊎_elim (λ (e : x ≡ 0). rw (h.0, h.1, e) refl) (λ (e : x ≡ 1). rw (h.0, h.1, e) refl) (bits x h.2)

pub eq_truth : (p x y z : ℕ) → IsTruthBeside 1 p x y → apply_of Eq x y z ≡ slice_index (x ∷ y ∷ z ∷ []) p
unfolding apply_of
eq_truth p x y z (inl h) = ⊎_elim (λ (e : y ≡ 0). rw (h.0, h.1, e) refl) (λ (e : y ≡ 1). rw (h.0, h.1, e) refl) (bits y h.2)
eq_truth p x y z (inr h) = ⊎_elim (λ (e : x ≡ 0). rw (h.0, h.1, e) refl) (λ (e : x ≡ 1). rw (h.0, h.1, e) refl) (bits x h.2)

pub select_chosen : (p x y z : ℕ) → IsSelected p x y z → apply_of Select x y z ≡ slice_index (x ∷ y ∷ z ∷ []) p
unfolding apply_of
select_chosen p x y z (inl h) = rw (h.0, lt-ltb 0 x h.1) refl
select_chosen p x y z (inr (inl h)) = rw (h.0, h.1) refl
select_chosen p x y z (inr (inr (inl h))) = rw (h.0, h.1) (same_choice (nat_lt 0 x) z)
select_chosen p x y z (inr (inr (inr h))) = ⊎_elim (λ (e : x ≡ 0). rw (h.0, h.1, h.2, e) refl) (λ (e : x ≡ 1). rw (h.0, h.1, h.2, e) refl) (bits x h.3)

-- ---- masks

-- what a cover covers it leaves as it is
pub covered : (t c y : ℕ) → IsCover t c → y ≤ t → bit_and y c ≡ y
covered t c y h l =
    let e : c ≡ 2 ^ h.bits - 1 = let p = h.power in omega arith in
    let small : y < 2 ^ h.bits = let p = h.power in let q = h.covers in omega arith in
    ap (bit_and y) e ∙ and_mask y h.bits ∙ mod-eq_of_lt small

-- a mask with all bits of the cover leaves it as it is
pub unmasked : (t c m y : ℕ) → IsCover t c → bit_and m c ≡ c → y ≤ t → bit_and m y ≡ y
unmasked t c m y h e l =
    ap (bit_and m) (sym (covered t c y h l) ∙ and_comm y c) ∙ sym (and_assoc y m c) ∙ ap (λ k. bit_and k y) e ∙ and_comm c y ∙ covered t c y h l

-- ---- the value is a constant

pub equal_sub : (x y z : ℕ) → x ≡ y → y < words → apply_of Sub x y z ≡ 0
unfolding apply_of
equal_sub x y z e l = rw e (ap (λ t. t % words) (let h : y + words - y ≡ words = omega arith in h) ∙ mod_self words)

pub equal_xor : (x y z : ℕ) → x ≡ y → apply_of Xor x y z ≡ 0
unfolding apply_of
equal_xor x y z e = rw e (xor_self y)

pub equal_lts : (x y z : ℕ) → x ≡ y → apply_of Lts x y z ≡ 0
unfolding apply_of
equal_lts x y z e = rw (e, le-ltb (rank y) (rank y) (omega arith)) refl

pub equal_eq : (x y z : ℕ) → x ≡ y → apply_of Eq x y z ≡ 1
unfolding apply_of
equal_eq x y z e = rw (e, eq-eqb y y refl) refl

pub equal_ne : (x y z : ℕ) → x ≡ y → apply_of Ne x y z ≡ 0
unfolding apply_of
equal_ne x y z e = rw (e, eq-eqb y y refl) refl

eqb_other : (x y : ℕ) → x ≢ y → eqb x y ≡ false
eqb_other x y n = ⊎_elim (λ h. absurd (n h.1)) (λ h. h.0) (eqb_tells x y)

pub apart_eq : (x y z : ℕ) → x ≢ y → apply_of Eq x y z ≡ 0
unfolding apply_of
apart_eq x y z n = rw (eqb_other x y n) refl

pub apart_ne : (x y z : ℕ) → x ≢ y → apply_of Ne x y z ≡ 1
unfolding apply_of
apart_ne x y z n = rw (eqb_other x y n) refl

pub not_below : (x y z : ℕ) → y ≤ x → apply_of Ltu x y z ≡ 0
unfolding apply_of
not_below x y z l = rw (le-ltb x y l) refl

pub below : (x y z : ℕ) → x < y → apply_of Ltu x y z ≡ 1
unfolding apply_of
below x y z l = rw (lt-ltb x y l) refl

-- operands past the arity don't matter
pub of_one : (op : Op) (x y z : ℕ) → arity op ≡ 1 → apply_of op x y z ≡ apply_of op x 0 0
unfolding apply_of
of_one Const x y z e = refl
of_one Load x y z e = refl
of_one Output x y z e = refl
of_one _ x y z e = absurd (cc)

pub of_two : (op : Op) (x y z : ℕ) → arity op ≡ 2 → apply_of op x y z ≡ apply_of op x y 0
unfolding apply_of
of_two Const x y z e = refl
of_two Iter x y z e = refl
of_two Input x y z e = refl
of_two Add x y z e = refl
of_two Sub x y z e = refl
of_two Mul x y z e = refl
of_two And x y z e = refl
of_two Or x y z e = refl
of_two Xor x y z e = refl
of_two Shl x y z e = refl
of_two Shr x y z e = refl
of_two Sar x y z e = refl
of_two Eq x y z e = refl
of_two Ne x y z e = refl
of_two Lts x y z e = refl
of_two Ltu x y z e = refl
of_two Mins x y z e = refl
of_two Maxs x y z e = refl
of_two Select x y z e = absurd (cc)
of_two Load x y z e = refl
of_two Store x y z e = refl
of_two Output x y z e = refl
of_two LoadIf x y z e = refl
of_two StoreIf x y z e = refl
of_two OutputIf x y z e = refl

-- ---- how great the value is

pub const_small : (x y z a : ℕ) → x ≤ a → apply_of Const x y z ≤ a
unfolding apply_of
const_small x y z a l = l

truth_small : (b : Bool) → one_if b ≤ 1
truth_small true = omega arith
truth_small false = omega arith

pub eq_small : (x y z : ℕ) → apply_of Eq x y z ≤ 1
unfolding apply_of
eq_small x y z = truth_small (eqb x y)

pub ne_small : (x y z : ℕ) → apply_of Ne x y z ≤ 1
unfolding apply_of
ne_small x y z = by (eqb x y)
  where
    by : (b : Bool) → cond b 0 1 ≤ 1
    by true = omega arith
    by false = omega arith

pub lts_small : (x y z : ℕ) → apply_of Lts x y z ≤ 1
unfolding apply_of
lts_small x y z = truth_small (nat_lt (rank x) (rank y))

pub ltu_small : (x y z : ℕ) → apply_of Ltu x y z ≤ 1
unfolding apply_of
ltu_small x y z = truth_small (nat_lt x y)

pub and_small : (x y z a b : ℕ) → x ≤ a → y ≤ b → apply_of And x y z ≤ min a b
unfolding apply_of
and_small x y z a b l m = let h = and_le_l x y in let k = and_le_r x y in omega arith

pub or_small : (x y z a b c : ℕ) → x ≤ a → y ≤ b → IsCover (max a b) c → apply_of Or x y z ≤ c
unfolding apply_of
or_small x y z a b c l m h =
    let p = h.power in
    let q = h.covers in
    let s = or_lt h.bits x y (omega arith) (omega arith) in
    omega arith

pub xor_small : (x y z a b c : ℕ) → x ≤ a → y ≤ b → IsCover (max a b) c → apply_of Xor x y z ≤ c
unfolding apply_of
xor_small x y z a b c l m h =
    let p = h.power in
    let q = h.covers in
    let s = xor_lt h.bits x y (omega arith) (omega arith) in
    omega arith

pub add_small : (x y z a b : ℕ) → x ≤ a → y ≤ b → apply_of Add x y z ≤ min (a + b) 4294967295
unfolding apply_of
add_small x y z a b l m = let h = mod-le (x + y) words in let k = mod-lt (x + y) {m = words} (omega arith) in omega arith

pub mul_small : (x y z a b : ℕ) → x ≤ a → y ≤ b → apply_of Mul x y z ≤ min (a * b) 4294967295
unfolding apply_of
mul_small x y z a b l m = let h = mod-le (x * y) words in let k = mod-lt (x * y) {m = words} (omega arith) in let s = mul-le-mul_right y l in let t = mul-le-mul_left a m in omega arith

pub shr_small : (x y z a : ℕ) → x ≤ a → apply_of Shr x y z ≤ a
unfolding apply_of
shr_small x y z a l = let h = div-le_self x (2 ^ (y % 32)) in omega arith

pub shr_known : (x y z a k : ℕ) → x ≤ a → y ≡ k → apply_of Shr x y z ≤ a / 2 ^ (k % 32)
unfolding apply_of
shr_known x y z a k l e =
    rw e (let h = div-mul-le_self x (2 ^ (k % 32)) in le-div (x / 2 ^ (k % 32)) a (2 ^ (k % 32)) (pow_pos (k % 32)) (omega arith))

pub shl_known : (x y z a k : ℕ) → x ≤ a → y ≡ k → apply_of Shl x y z ≤ min (a * 2 ^ (k % 32)) 4294967295
unfolding apply_of
shl_known x y z a k l e =
    rw e
    (let h = mod-le (x * 2 ^ (k % 32)) words in
    let t = mod-lt (x * 2 ^ (k % 32)) {m = words} (omega arith) in
    let s = mul-le-mul_right (2 ^ (k % 32)) l in
    omega arith)

pub select_small : (x y z a b : ℕ) → y ≤ a → z ≤ b → apply_of Select x y z ≤ max a b
unfolding apply_of
select_small x y z a b l m = by (nat_lt 0 x)
  where
    by : (t : Bool) → cond t y z ≤ max a b
    by true = omega arith
    by false = omega arith

choice_small : (b : Bool) (x y : ℕ) → x < words → y < words → cond b x y ≤ 4294967295
choice_small true x y l m = omega arith
choice_small false x y l m = omega arith

-- every value is a word
pub value_small : (op : Op) (x y z : ℕ) → x < words → y < words → z < words → apply_of op x y z ≤ 4294967295
unfolding apply_of
value_small Const x y z a b c = omega arith
value_small Iter x y z a b c = omega arith
value_small Input x y z a b c = omega arith
value_small Add x y z a b c = let h = mod-lt (x + y) {m = words} (omega arith) in omega arith
value_small Sub x y z a b c = let h = mod-lt (x + words - y) {m = words} (omega arith) in omega arith
value_small Mul x y z a b c = let h = mod-lt (x * y) {m = words} (omega arith) in omega arith
value_small And x y z a b c = let h = and_le_l x y in omega arith
value_small Or x y z a b c = let h = or_lt 32 x y a b in omega arith
value_small Xor x y z a b c = let h = xor_lt 32 x y a b in omega arith
value_small Shl x y z a b c = let h = mod-lt (x * 2 ^ (y % 32)) {m = words} (omega arith) in omega arith
value_small Shr x y z a b c = let h = div-le_self x (2 ^ (y % 32)) in omega arith
value_small Sar x y z a b c =
    let h = div-le_self x (2 ^ (y % 32)) in
    choice_small (nat_lt x (2 ^ 31)) (x / 2 ^ (y % 32)) (words - 1 - (words - 1 - x) / 2 ^ (y % 32)) (omega arith) (omega arith)
value_small Eq x y z a b c = let h = truth_small (eqb x y) in omega arith
value_small Ne x y z a b c = choice_small (eqb x y) 0 1 (omega arith) (omega arith)
value_small Lts x y z a b c = let h = truth_small (nat_lt (rank x) (rank y)) in omega arith
value_small Ltu x y z a b c = let h = truth_small (nat_lt x y) in omega arith
value_small Mins x y z a b c = choice_small (nat_lt (rank y) (rank x)) y x b a
value_small Maxs x y z a b c = choice_small (nat_lt (rank x) (rank y)) y x b a
value_small Select x y z a b c = choice_small (nat_lt 0 x) y z b c
value_small Load x y z a b c = omega arith
value_small Store x y z a b c = omega arith
value_small Output x y z a b c = omega arith
value_small LoadIf x y z a b c = omega arith
value_small StoreIf x y z a b c = omega arith
value_small OutputIf x y z a b c = omega arith

-- ---- options

pub some_weaker : (P Q : ℕ → Type 0) (o : Option ℕ) → ((p : ℕ) → P p → Q p) → IfSome o P → IfSome o Q
some_weaker P Q None h s = tt
some_weaker P Q (Some p) h s = h p s
