-- Congruences modulo a power of two.
use Rattle.std.proofs.Common.{◌≡◌, ℕ, zero, suc, ◌+◌, ◌-◌, ◌*◌, ◌/◌, ◌%◌, ◌^◌, ◌<◌, ◌≤◌, sym, ap, ap₂, ◌∙◌, subst, refl, arith, ⊎_elim, mul-le-mul_right}
use Rattle.std.specs.Prelude.{◌⊎◌}
use Rattle.std.specs.Int.{bit_at, trailing_zeros, w32}
use Rattle.std.proofs.Math.Nat.{mod-add-mod, add-mod-mod, mod-mod, add-mul-mod_self_right, mul-div_cancel, mul-mod_left, mod-eq_of_lt, div-add-mod'}
use Rattle.std.proofs.Math.Arith.{mod-mul}
use Rattle.std.proofs.Math.Pow.{mod-mod-pow}
use Rattle.std.proofs.lemmas.Nat.{mod_below, mod-pow-add, pow-add, pow_pos, pow_below, shr_split}
use Rattle.std.proofs.lemmas.Nat.Bits.{bit_at-trailing_zeros}
use Rattle.std.proofs.lemmas.Bool.{cases_eq, cases_lt}
use Rattle.cg_depend.specs.Congruence.{Solves, HasNone, IsParted}
use Rattle.cg_depend.proofs.Numbers.{more, product_word}

-- ---- an odd number has an inverse

module _ (s inv d m : ℕ) (pos : 0 < m) (one : (s * inv) % m ≡ 1 % m) (small : d < m) where
  pub solution : (x : ℕ) → (s * x) % m ≡ d → x % m ≡ (d * inv) % m
  solution x e =
      ap (λ z. z % m) (let f : x ≡ 1 * x = omega arith in f) ∙ sym (product_word m (s * inv) x 1 one)
      ∙ ap (λ z. z % m) (let f : s * inv * x ≡ s * x * inv = omega arith in f)
      ∙ product_word m (s * x) inv d (e ∙ sym (mod-eq_of_lt small))

  pub solves : (x : ℕ) → x % m ≡ (d * inv) % m → (s * x) % m ≡ d
  solves x e =
      ap (λ z. z % m) (let f : s * x ≡ x * s = omega arith in f) ∙ product_word m x s (d * inv) e
      ∙ ap (λ z. z % m) (let f : d * inv * s ≡ s * inv * d = omega arith in f) ∙ product_word m (s * inv) d 1 one
      ∙ ap (λ z. z % m) (let f : 1 * d ≡ d = omega arith in f) ∙ mod-eq_of_lt small

-- one more bit of an inverse, from a power m of two to the next
bit_none : (n m : ℕ) → 0 < m → n % m ≡ 1 → n / m % 2 ≡ 0 → n % (2 * m) ≡ 1
bit_none n m h e z = mod-mul n {m = 2} {c = m} (omega arith) h ∙ ap₂ (λ x y. x * m + y) z e ∙ omega arith

bit_more : (o y m : ℕ) → 1 < m → o % 2 ≡ 1 → (o * y) % m ≡ 1 → (o * y) / m % 2 ≡ 1 → (o * (y + m)) % (2 * m) ≡ 1
bit_more o y m h odd e z =
    let r : (o * y) % (2 * m) ≡ 1 * m + 1 = mod-mul (o * y) {m = 2} {c = m} (omega arith) (omega arith) ∙ ap₂ (λ a b. a * m + b) z e in
    ap (λ k. k % (2 * m)) (let q : o ≡ o / 2 * 2 + 1 = omega arith in let f : o * m ≡ (o / 2 * 2 + 1) * m = ap (λ k. k * m) q in let g : o * (y + m) ≡ o * y + m + o / 2 * (2 * m) = omega arith in g)
    ∙ add-mul-mod_self_right (o * y + m) (o / 2) (2 * m)
    ∙ sym (mod-add-mod (o * y) (2 * m) m)
    ∙ ap (λ k. (k + m) % (2 * m)) r
    ∙ ap (λ k. k % (2 * m)) (let g : 1 * m + 1 + m ≡ 1 + 1 * (2 * m) = omega arith in g)
    ∙ add-mul-mod_self_right 1 1 (2 * m) ∙ mod-eq_of_lt (let l : 1 < 2 * m = omega arith in l)

pub inverse_step : (o y y' p k : ℕ) → p ≡ 2 ^ k → 1 ≤ k → y < p → (o * y) % p ≡ 1 → o % 2 ≡ 1 → (((o * y) / p % 2 ≡ 1) × (y' ≡ y + p)) ⊎ (((o * y) / p % 2 ≡ 1 → ⊥) × (y' ≡ y)) →
    (p * 2 ≡ 2 ^ (k + 1)) × (1 ≤ k + 1) × (y' < p * 2) × ((o * y') % (p * 2) ≡ 1)
inverse_step o y y' p k ep hk hy e odd c =
    let big : 1 < p = subst (λ z. 1 < z) (sym ep) (pow_below 0 k (omega arith)) in
    let turned : p * 2 ≡ 2 * p = omega arith in (
      ap (λ z. z * 2) ep ∙ sym (pow-add 2 k 1),
      omega arith,
      ⊎_elim (λ h. let z = h.1 in omega arith) (λ h. let z = h.1 in omega arith) c,
      ⊎_elim (λ h. ap₂ (λ a b. (o * a) % b) h.1 turned ∙ bit_more o y p big odd e h.0)
          (λ h. ap₂ (λ a b. (o * a) % b) h.1 turned ∙ bit_none (o * y) p (omega arith) e (let n = h.0 in let l : (o * y) / p % 2 < 2 = mod_below _ 2 (omega arith) in ⊎_elim (λ z. z) (λ z. absurd (n (omega arith))) (cases_eq ((o * y) / p % 2) 0))) c,
    )

-- ---- a stride's power of two

low_zero : (n k : ℕ) → ((i : ℕ) → i < k → bit_at n i ≡ 0) → n % 2 ^ k ≡ 0
low_zero n zero h = omega arith
low_zero n (suc k) h =
    ap (λ z. n % 2 ^ z) (let e : suc k ≡ 1 + k = omega arith in e) ∙ mod-pow-add n 1 k
    ∙ ap₂ (λ x y. x * 2 ^ k + y) (h k (omega arith)) (low_zero n k (λ i l. h i (omega arith))) ∙ omega arith

pub lowest : (n k : ℕ) → k ≡ trailing_zeros w32 n → 0 < n → n < 2 ^ 32 → (k < 32) × (n / 2 ^ k % 2 ≡ 1) × (n ≡ n / 2 ^ k * 2 ^ k)
lowest n k e pos small =
    let h = bit_at-trailing_zeros w32 n pos small in
    let z = low_zero n (trailing_zeros w32 n) h.2 in
    subst (λ j. (j < 32) × (n / 2 ^ j % 2 ≡ 1) × (n ≡ n / 2 ^ j * 2 ^ j)) (sym e) (h.0, h.1, omega (arith, z, shr_split n (trailing_zeros w32 n)))

pub zeros_few : (stride k inverse : ℕ) → IsParted stride k inverse → k ≤ 32
zeros_few stride k inverse p = ⊎_elim (λ h. let e = h.1 in omega arith) (λ h. let l = h.2 in omega arith) p

-- the odd number; 0 for stride 0
record HasOdd (stride k inverse : ℕ) : Type 0 where
  odd : ℕ
  is : stride ≡ odd * 2 ^ k
  few : k ≤ 32
  one : (odd * inverse) % 2 ^ (32 - k) ≡ 1 % 2 ^ (32 - k)

odd_of : (stride k inverse : ℕ) → IsParted stride k inverse → HasOdd stride k inverse
odd_of stride k inverse p =
    ⊎_elim
    (λ h.
    let (is_zero, all) = h in
    record { odd = 0; is = omega arith; few = omega arith; one = subst (λ k. (0 * inverse) % 2 ^ k ≡ 1 % 2 ^ k) (let e : 0 ≡ 32 - k = omega arith in e) (omega arith) })
    (λ h.
    let l = h.2 in
    record {
      odd = h.0;
      is = h.1;
      few = omega arith;
      one =
          sym (mod-mod-pow (h.0 * inverse) k (32 - k)) ∙ ap (λ z. (h.0 * inverse) % 2 ^ z % 2 ^ (32 - k)) (let e : k + (32 - k) ≡ 32 = omega arith in e)
          ∙ ap (λ z. z % 2 ^ (32 - k)) h.3;
    })
    p

times_mod : (a m c : ℕ) → 0 < m → 0 < c → (a * c) % (m * c) ≡ a % m * c
times_mod a m c pm pc = mod-mul (a * c) {m = m} {c = c} pm pc ∙ ap₂ (λ x y. x % m * c + y) (mul-div_cancel a pc) (mul-mod_left a c) ∙ omega arith

-- ---- the least solution

-- the first number from `least` on that is r modulo m
abbrev pub onward : ℕ → ℕ → ℕ → ℕ
onward least m r = least + (r + m - least % m) % m

onward_is : (least m r : ℕ) → 0 < m → onward least m r % m ≡ r % m
onward_is least m r pos =
    add-mod-mod least (r + m - least % m) m
    ∙ more m (1 + least / m) r (least + (r + m - least % m)) (let e : least / m * m + least % m ≡ least = div-add-mod' least m in let l : least % m < m = mod_below least m pos in omega arith)

onward_near : (least m r : ℕ) → 0 < m → onward least m r < least + m
onward_near least m r pos = let l : (r + m - least % m) % m < m = mod_below (r + m - least % m) m pos in omega arith

-- of two numbers with one remainder the greater is m further or more
apart : (x y m : ℕ) → x % m ≡ y % m → y < x → y + m ≤ x
apart x y m e l =
    let ex : x / m * m + x % m ≡ x = div-add-mod' x m in
    let ey : y / m * m + y % m ≡ y = div-add-mod' y m in
    ⊎_elim
    (λ (b : y / m < x / m). let p : (y / m + 1) * m ≤ x / m * m = mul-le-mul_right m (omega arith) in omega arith)
    (λ (b : x / m ≤ y / m). absurd (let p : x / m * m ≤ y / m * m = mul-le-mul_right m b in omega arith))
    (cases_lt (y / m) (x / m))

module _ (stride k inverse delta part m : ℕ) (h : HasOdd stride k inverse) (is_part : part ≡ 2 ^ k) (is_modulus : m ≡ 2 ^ (32 - k)) where
  part_some : 0 < part
  part_some = subst (λ z. 0 < z) (sym is_part) (pow_pos k)

  modulus_some : 0 < m
  modulus_some = subst (λ z. 0 < z) (sym is_modulus) (pow_pos (32 - k))

  split : 2 ^ 32 ≡ m * part
  split = ap (λ z. 2 ^ z) (let few = h.few in let e : 32 ≡ 32 - k + k = omega arith in e) ∙ pow-add 2 (32 - k) k ∙ ap₂ (λ a b. a * b) (sym is_modulus) (sym is_part)

  whole : (x : ℕ) → (stride * x) % 2 ^ 32 ≡ (h.odd * x) % m * part
  whole x =
      ap₂ (λ a b. a % b) (ap (λ z. z * x) (h.is ∙ ap (λ z. h.odd * z) (sym is_part)) ∙ (let e : h.odd * part * x ≡ h.odd * x * part = omega arith in e)) split
      ∙ times_mod (h.odd * x) m part modulus_some part_some

  unsolved_by : (delta % part ≡ 0 → ⊥) → (x : ℕ) → Solves stride delta x → ⊥
  unsolved_by rest x s = rest (ap (λ z. z % part) (sym s ∙ whole x) ∙ mul-mod_left _ part)

  module _ (d first x least : ℕ) (delta_is : delta ≡ d * part) (word : delta < 2 ^ 32) (is_first : first ≡ (d * inverse) % m) (c : x ≡ onward least m first) where
    small : d < m
    small = ⊎_elim (λ l. l) (λ l. absurd (let p : m * part ≤ d * part = mul-le-mul_right part l in omega (arith, split))) (cases_lt d m)

    one : (h.odd * inverse) % m ≡ 1 % m
    one = subst (λ z. (h.odd * inverse) % z ≡ 1 % z) (sym is_modulus) h.one

    to : (y : ℕ) → Solves stride delta y → (h.odd * y) % m ≡ d
    to y s = sym (mul-div_cancel ((h.odd * y) % m) part_some) ∙ ap (λ z. z / part) (sym (whole y) ∙ s ∙ delta_is) ∙ mul-div_cancel d part_some

    rest : x % m ≡ (d * inverse) % m
    rest = ap (λ z. z % m) c ∙ onward_is least m first modulus_some ∙ ap (λ z. z % m) is_first ∙ mod-mod (d * inverse) m

    at_least : least ≤ x
    at_least = omega (arith, c)

    it_solves : Solves stride delta x
    it_solves = whole x ∙ ap (λ z. z * part) (solves h.odd inverse d m modulus_some one small x rest) ∙ sym delta_is

    no_less : HasNone stride delta least x
    no_less y l b s =
        let same : x % m ≡ y % m = rest ∙ sym (solution h.odd inverse d m modulus_some one small y (to y s)) in
        let far : y + m ≤ x = apart x y m same b in
        let near : onward least m first < least + m = onward_near least m first modulus_some in
        omega (arith, c, far, near, l)

    solved_by : (least ≤ x) × Solves stride delta x × HasNone stride delta least x
    solved_by = (at_least, it_solves, no_less)

-- only a multiple of the power of two has a solution
pub unsolved : (stride k inverse delta part : ℕ) → IsParted stride k inverse → part ≡ 2 ^ k → (delta % part ≡ 0 → ⊥) → (x : ℕ) → Solves stride delta x → ⊥
unsolved stride k inverse delta part p is_part = unsolved_by stride k inverse delta part (2 ^ (32 - k)) (odd_of stride k inverse p) is_part refl

pub solved : (stride k inverse delta part m first x least : ℕ) → IsParted stride k inverse → part ≡ 2 ^ k → m ≡ 2 ^ (32 - k) → delta % part ≡ 0 → delta < 2 ^ 32 → first ≡ (delta / part * inverse) % m →
    x ≡ onward least m first → (least ≤ x) × Solves stride delta x × HasNone stride delta least x
solved stride k inverse delta part m first x least p is_part is_modulus exact =
    solved_by stride k inverse delta part m (odd_of stride k inverse p) is_part is_modulus (delta / part) first x least (sym (div-add-mod' delta part) ∙ (let e : delta / part * part + delta % part ≡ delta / part * part = omega arith in e))
