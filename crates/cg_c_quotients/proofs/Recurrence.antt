-- What the recurrence computes.
use Rattle.std.proofs.Common.{◌≡◌, ℕ, zero, suc, ◌+◌, ◌-◌, ◌*◌, ◌/◌, ◌%◌, ◌^◌, ◌<◌, ◌≤◌, cond, nat_lt, sym, ap, ◌∙◌, arith, ⊎_elim}
use Rattle.std.proofs.Math.Nat.{add-div_right, add-mod_right, div-add-mod, div-eq_of_lt, div-le_self, mod-add-mod, mod-eq_of_lt, mod-lt}
use Rattle.std.proofs.lemmas.Bool.{cases_lt, lt-ltb, le-ltb}
use Rattle.std.proofs.lemmas.Nat.{div-mul-add, mod-mul-add}
use Rattle.cg_word.specs.declared.op.Op.TheVariants.{Add, Sub}
use Rattle.cg_word.specs.Word.{apply_of, one_if, rank, words}
use Rattle.cg_c_quotients.specs.Quotients.{quotient_at, remainder_at, remainder_after, wraps}

-- ---- the quotient and the remainder of a number and of 2 more

later : (p n : ℕ) → n % p + 2 < p → ((n + 2) / p ≡ n / p) × ((n + 2) % p ≡ n % p + 2)
later p n l =
    let e : n + 2 ≡ n / p * p + (n % p + 2) = let d = div-add-mod n p in omega arith in
    (ap (λ x. x / p) e ∙ div-mul-add (n / p) p (n % p + 2) l, ap (λ x. x % p) e ∙ mod-mul-add (n / p) p (n % p + 2) l)

wrapped : (p n : ℕ) → 3 ≤ p → p ≤ n % p + 2 → ((n + 2) / p ≡ n / p + 1) × ((n + 2) % p ≡ n % p + 2 - p)
wrapped p n h l =
    let r : n % p < p = mod-lt n (omega arith) in
    let e : n + 2 ≡ (n / p + 1) * p + (n % p + 2 - p) = let d = div-add-mod n p in omega arith in
    let s : n % p + 2 - p < p = omega arith in
    (ap (λ x. x / p) e ∙ div-mul-add (n / p + 1) p (n % p + 2 - p) s, ap (λ x. x % p) e ∙ mod-mul-add (n / p + 1) p (n % p + 2 - p) s)

-- ---- a step of the remainder's word

rank_is : (p x : ℕ) → p < 2 ^ 31 → x < p → rank (words - p + x) ≡ 2 ^ 31 - p + x
rank_is p x l r =
    ap (λ y. y % words) (let e : words - p + x + 2 ^ 31 ≡ (2 ^ 31 - p + x) + words = omega arith in e) ∙
    add-mod_right (2 ^ 31 - p + x) words ∙ mod-eq_of_lt (omega arith)

wraps_not : (p x : ℕ) → p < 2 ^ 31 → x + 2 < p → wraps (words - p + x) ≡ 0
unfolding apply_of
wraps_not p x l r = ap one_if (ap (λ y. nat_lt 2147483645 y) (rank_is p x l (omega arith)) ∙ le-ltb 2147483645 (2 ^ 31 - p + x) (omega arith))

wraps_here : (p x : ℕ) → p < 2 ^ 31 → x < p → p ≤ x + 2 → wraps (words - p + x) ≡ 1
unfolding apply_of
wraps_here p x l r s = ap one_if (ap (λ y. nat_lt 2147483645 y) (rank_is p x l r) ∙ lt-ltb 2147483645 (2 ^ 31 - p + x) (omega arith))

-- the second branch of the choice, and the first
later_word : (p b : ℕ) → wraps b ≡ 0 → remainder_after p b ≡ apply_of Add b 2 0
unfolding apply_of
later_word p b e = ap (λ y. cond (nat_lt 0 y) (apply_of Add b (apply_of Sub 2 p 0) 0) (apply_of Add b 2 0)) e

wrapped_word : (p b : ℕ) → wraps b ≡ 1 → remainder_after p b ≡ apply_of Add b (apply_of Sub 2 p 0) 0
unfolding apply_of
wrapped_word p b e = ap (λ y. cond (nat_lt 0 y) (apply_of Add b (apply_of Sub 2 p 0) 0) (apply_of Add b 2 0)) e

later_sum : (p x : ℕ) → 3 ≤ p → p < 2 ^ 31 → x + 2 < p → apply_of Add (words - p + x) 2 0 ≡ words - p + (x + 2)
unfolding apply_of
later_sum p x h l r = mod-eq_of_lt (omega arith) ∙ omega arith

wrapped_sum : (p x : ℕ) → 3 ≤ p → p < 2 ^ 31 → x < p → p ≤ x + 2 → apply_of Add (words - p + x) (apply_of Sub 2 p 0) 0 ≡ words - p + (x + 2 - p)
unfolding apply_of
wrapped_sum p x h l r s =
    let m : (2 + words - p) % words ≡ 2 + words - p = mod-eq_of_lt (omega arith) in
    rw m
    (ap (λ y. y % words) (let e : words - p + x + (2 + words - p) ≡ words - p + (x + 2 - p) + words = omega arith in e) ∙
    add-mod_right (words - p + (x + 2 - p)) words ∙ mod-eq_of_lt (omega arith))

-- ---- the sequences

-- the number that the index i stands for, and one divisor more
abbrev number : (p i : ℕ) → ℕ
number p i = i + p - 2

after : (p i : ℕ) → 3 ≤ p → number p (suc (suc i)) ≡ number p i + 2
after p i h = omega arith

-- a step from one remainder to the next, and whether it wraps
record Stepped (p n : ℕ) : Type 0 where
  pub wraps_by : (n + 2) / p ≡ n / p + wraps (words - p + n % p)
  pub word_is : remainder_after p (words - p + n % p) ≡ words - p + (n + 2) % p

stepped : (p n : ℕ) → 3 ≤ p → p < 2 ^ 31 → Stepped p n
stepped p n h l = ⊎_elim below above (cases_lt (n % p + 2) p)
  where
    below : n % p + 2 < p → Stepped p n
    below s =
        let w = wraps_not p (n % p) l s in
        let e = later p n s in
        record {
          wraps_by = omega arith;
          word_is = later_word p (words - p + n % p) w ∙ later_sum p (n % p) h l s ∙ ap (λ y. words - p + y) (sym e.1);
        }

    above : p ≤ n % p + 2 → Stepped p n
    above s =
        let r : n % p < p = mod-lt n (omega arith) in
        let w = wraps_here p (n % p) l r s in
        let e = wrapped p n h s in
        record {
          wraps_by = omega arith;
          word_is = wrapped_word p (words - p + n % p) w ∙ wrapped_sum p (n % p) h l r s ∙ ap (λ y. words - p + y) (sym e.1);
        }

pub remainder_is : (p i : ℕ) → 3 ≤ p → p < 2 ^ 31 → remainder_at p i ≡ words - p + number p i % p
unfolding remainder_at
remainder_is p zero h l = let e : number p 0 % p ≡ number p 0 = mod-eq_of_lt (omega arith) in omega arith
remainder_is p (suc zero) h l = let e : number p 1 % p ≡ number p 1 = mod-eq_of_lt (omega arith) in omega arith
remainder_is p (suc (suc i)) h l =
    ap (remainder_after p) (remainder_is p i h l) ∙ (stepped p (number p i) h l).word_is ∙ ap (λ y. words - p + y % p) (sym (after p i h))

-- a sum of words, where the first is known as a remainder
sum_word : (a b : ℕ) → apply_of Add (a % words) b 0 ≡ (a + b) % words
unfolding apply_of
sum_word a b = mod-add-mod a words b

pub quotient_is : (p i : ℕ) → 3 ≤ p → p < 2 ^ 31 → quotient_at p i ≡ (number p i / p + (words - 1)) % words
unfolding quotient_at
quotient_is p zero h l =
    sym (ap (λ y. (y + 4294967295) % words) (let e : number p 0 / p ≡ 0 = div-eq_of_lt (omega arith) in e))
quotient_is p (suc zero) h l =
    sym (ap (λ y. (y + 4294967295) % words) (let e : number p 1 / p ≡ 0 = div-eq_of_lt (omega arith) in e))
quotient_is p (suc (suc i)) h l =
    let w : wraps (remainder_at p i) ≡ wraps (words - p + number p i % p) = ap wraps (remainder_is p i h l) in
    let n : number p (suc (suc i)) / p ≡ (number p i + 2) / p = ap (λ y. y / p) (after p i h) in
    let s = (stepped p (number p i) h l).wraps_by in
    ap (λ y. apply_of Add y (wraps (remainder_at p i)) 0) (quotient_is p i h l) ∙
    sum_word (number p i / p + (words - 1)) (wraps (remainder_at p i)) ∙
    ap (λ y. y % words) (omega arith)

-- at a turn it is the quotient
pub recurrence_is : (p t : ℕ) → 3 ≤ p → p < 2 ^ 31 → t < words → quotient_at p (t + 2) ≡ t / p
recurrence_is p t h l b =
    let n : number p (t + 2) ≡ t + p = omega arith in
    let q : number p (t + 2) / p ≡ t / p + 1 = ap (λ y. y / p) n ∙ add-div_right t (omega arith) in
    let s = div-le_self t p in
    quotient_is p (t + 2) h l ∙
    ap (λ y. y % words) (let e : number p (t + 2) / p + (words - 1) ≡ t / p + words = omega arith in e) ∙
    add-mod_right (t / p) words ∙ mod-eq_of_lt (omega arith)
