-- Each form that is chosen computes the quotient.
use Rattle.std.proofs.Common.{◌≡◌, ℕ, ◌+◌, ◌-◌, ◌*◌, ◌/◌, ◌%◌, ◌^◌, ◌<◌, ◌≤◌, refl, sym, ap, ◌∙◌, subst, arith}
use Rattle.std.proofs.Math.Nat.{div-add-mod, div-one, mod-eq_of_lt, mod-lt, mul-le-mul_right}
use Rattle.std.proofs.lemmas.Grind.{div_ceil_times}
use Rattle.std.proofs.lemmas.Nat.{div-mul-add, le-div}
use Rattle.cg_word.specs.declared.op.Op.TheVariants.{Mul, Shr}
use Rattle.cg_word.specs.Word.{apply_of, words}
use Rattle.cg_c_quotients.specs.declared.quotients.Quotient.{Quotient}
use Rattle.cg_c_quotients.specs.declared.quotients.Quotient.TheVariants.{Turn, Shift, Product, Recurrence}
use Rattle.cg_c_quotients.specs.Quotients.{IsChoice, IsLeastProduct, excess_for, factor_for, word_at}
use Rattle.cg_c_quotients.proofs.Exponents.{exponent_below}
use Rattle.cg_c_quotients.proofs.Recurrence.{recurrence_is}

-- ---- products

-- a turn's product with the factor: its quotient times 2 ^ shift, and less than one of these
product_parts : (a r p m e s : ℕ) → r < p → m * p ≡ s + e → (a + 1) * e < m → ((p * a + r) * m ≡ a * s + (a * e + r * m)) × (a * e + r * m < s)
product_parts a r p m e s l f g =
    let h : a * (m * p) ≡ a * (s + e) = ap (λ x. a * x) f in
    let k : (r + 1) * m ≤ p * m = mul-le-mul_right m (omega arith) in
    (omega arith, omega arith)

-- the quotients grow with the numbers
div_grows : (p t n : ℕ) → 1 ≤ p → t ≤ n → t / p ≤ n / p
div_grows p t n h l = let e = div-add-mod t p in le-div (t / p) n p h (omega arith)

product_word : (p n m k t e : ℕ) → 1 ≤ p → t < n → k < 32 → m * p ≡ 2 ^ k + e → ((n - 1) / p + 1) * e < m → (n - 1) * m < words → apply_of Shr (apply_of Mul t m 0) k 0 ≡ t / p
unfolding apply_of
product_word p n m k t e h l c f x y =
    let d = div-add-mod t p in
    let r : t % p < p = mod-lt t h in
    let g : t / p ≤ (n - 1) / p = div_grows p t (n - 1) h (omega arith) in
    let u : (t / p + 1) * e ≤ ((n - 1) / p + 1) * e = mul-le-mul_right e (omega arith) in
    let parts = product_parts (t / p) (t % p) p m e (2 ^ k) r f (omega arith) in
    let w : t * m ≤ (n - 1) * m = mul-le-mul_right m (omega arith) in
    let b : t * m < words = omega arith in
    let q : t * m ≡ t / p * 2 ^ k + (t / p * e + t % p * m) = ap (λ z. z * m) (sym d) ∙ parts.0 in
    rw (mod-eq_of_lt b, mod-eq_of_lt c) (ap (λ z. z / 2 ^ k) q ∙ div-mul-add (t / p) (2 ^ k) (t / p * e + t % p * m) parts.1)

pub product_is : (p n m k t : ℕ) → 1 ≤ p → t < n → IsLeastProduct p n m k → apply_of Shr (apply_of Mul t m 0) k 0 ≡ t / p
product_is p n m k t h l c =
    rw c.factor_is
    (let f = div_ceil_times (2 ^ k) p h in
    product_word p n (factor_for p k) k t (excess_for p k) h l c.within (omega arith) c.passes.exact c.passes.is_word)

-- ---- shifts

shift_is : (p k t : ℕ) → k < 32 → p ≡ 2 ^ k → apply_of Shr t k 0 ≡ t / p
unfolding apply_of
shift_is p k t l e = rw (e, mod-eq_of_lt l) refl

-- ---- all forms

pub exact : (p n : ℕ) (form : Quotient) → 1 ≤ p → p ≤ n → n ≤ 1000000 → IsChoice p n form → (t : ℕ) → t < n → word_at form p t ≡ t / p
unfolding IsChoice word_at
exact p n Turn h l b c t s = rw c (sym (div-one t))
exact p n (Shift k) h l b c t s = shift_is p k t (exponent_below k (subst (λ x. x < 2 ^ 32) c.1 (omega arith))) c.1
exact p n (Product m k) h l b c t s = product_is p n m k t h s c.1
exact p n Recurrence h l b c t s =
    let one = c.0 0 in
    let two = c.0 1 in
    recurrence_is p t (omega arith) (omega arith) (omega arith)
