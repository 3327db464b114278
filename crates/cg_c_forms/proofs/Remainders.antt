-- Remainders of quotients.
use Rattle.std.proofs.Common.{◌≡◌, ℕ, zero, suc, ◌+◌, ◌-◌, ◌*◌, ◌/◌, ◌%◌, ◌<◌, ◌≤◌, sym, ap, ◌∙◌, arith, inl, inr}
use Rattle.std.specs.Prelude.{◌⊎◌}
use Rattle.std.proofs.Math.Nat.{add-mod_right, div-div-eq-div-mul, div-le_self, div-mul-le_self, mod-eq-sub-div-mul, mod-eq_of_lt, div-lt_iff_lt-mul, div-eq_of_lt, div-zero, mod-zero, zero-mod}
use Rattle.cg_word.specs.declared.op.Op.TheVariants.{Mul, Sub}
use Rattle.cg_word.specs.Word.{apply_of, words}

-- the last digit is the quotient itself, and so is a digit of which a number is 0
pub last_digit : (p r t : ℕ) → (p * r ≡ 0) ⊎ (t < p * r) → t / p ≡ t / p % r
last_digit zero r t l = rw (div-zero t) (sym (zero-mod r))
last_digit (suc p) zero t l = sym (mod-zero (t / suc p))
last_digit (suc p) (suc r) t (inl e) = absurd (omega arith)
last_digit (suc p) (suc r) t (inr l) = sym (mod-eq_of_lt ((div-lt_iff_lt-mul {k = suc p} {x = t} {y = suc r} (omega arith)).1 (omega arith)))

-- the quotient by 0, or by more than there are turns
pub no_quotient : (p n t : ℕ) → (p ≡ 0) ⊎ (n < p) → t < n → 0 ≡ t / p
no_quotient p n t (inl e) l = rw e (sym (div-zero t))
no_quotient p n t (inr h) l = sym (div-eq_of_lt (omega arith))

-- a quotient less the radix times the next quotient
pub remainder_word : (p r t : ℕ) → t < words → apply_of Sub (t / p) (apply_of Mul (t / (p * r)) r 0) 0 ≡ t / p % r
unfolding apply_of
remainder_word p r t l =
    let q : t / p / r ≡ t / (p * r) = div-div-eq-div-mul t p r in
    let d : t / p ≤ t = div-le_self t p in
    let m : t / p / r * r ≤ t / p = div-mul-le_self (t / p) r in
    let e : t / p % r ≡ t / p - t / p / r * r = mod-eq-sub-div-mul (t / p) r in
    let s : (t / p / r * r) % words ≡ t / p / r * r = mod-eq_of_lt (omega arith) in
    rw (← q, s)
    (ap (λ y. y % words) (let h : t / p + words - t / p / r * r ≡ (t / p - t / p / r * r) + words = omega arith in h) ∙
    add-mod_right (t / p - t / p / r * r) words ∙ mod-eq_of_lt (omega arith) ∙ sym e)
