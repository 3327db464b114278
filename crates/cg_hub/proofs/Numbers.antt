-- Numbers in slots and runs of an interval.
use Rattle.std.proofs.Common.{◌≡◌, ℕ, suc, ◌+◌, ◌*◌, ◌/◌, ◌%◌, ◌<◌, ◌≤◌, sym, ap, ◌∙◌, arith, ⊎_elim, mul-le-mul_right}
use Rattle.std.proofs.lemmas.Bool.{cases_lt}
use Rattle.std.proofs.lemmas.Nat.{div-add-mod', mod_below}

near : (p q r x y ii : ℕ) → x ≡ p * ii + r → y ≡ q * ii + r → x < y + ii → p ≤ q
near p q r x y ii e f h =
    ⊎_elim (λ (l : q < p). absurd (let g : suc q * ii ≤ p * ii = mul-le-mul_right ii l in omega arith)) (λ l. l) (cases_lt q p)

-- two numbers of one slot that are less than an interval apart
pub one_slot : (x y ii : ℕ) → x % ii ≡ y % ii → x < y + ii → y < x + ii → x ≡ y
one_slot x y ii e h g =
    let a : x ≡ x / ii * ii + x % ii = sym (div-add-mod' x ii) in
    let b : y ≡ y / ii * ii + x % ii = rw e (sym (div-add-mod' y ii)) in
    let c = near (x / ii) (y / ii) (x % ii) x y ii a b h in
    let d = near (y / ii) (x / ii) (x % ii) y x ii b a g in
    let f : x / ii ≡ y / ii = omega arith in
    a ∙ rw f (sym b)

-- two numbers of one run are less than an interval apart
pub one_run : (j k ii : ℕ) → 0 < ii → j / ii ≡ k / ii → j < k + ii
one_run j k ii h e =
    let f = ap (λ z. z * ii) e in
    let g : j % ii < ii = mod_below j ii h in
    omega (arith, div-add-mod' j ii, div-add-mod' k ii)
