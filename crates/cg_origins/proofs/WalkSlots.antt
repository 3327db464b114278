-- The slot of an earlier cycle.
use Rattle.std.proofs.Common.{◌≡◌, ℕ, ◌+◌, ◌-◌, ◌%◌, ◌<◌, ◌≤◌, sym, ap, subst, ◌∙◌, arith, ⊎_elim}
use Rattle.std.proofs.lemmas.Bool.{cases_lt}
use Rattle.std.proofs.lemmas.Nat.{mod_below}
use Rattle.std.proofs.Math.Nat.{add-mod, mod-eq_of_lt, mod-eq-sub-mod}

-- the slot s, from which it is b cycles to `slot` in the same round
same_round : (ii b slot s : ℕ) → b < ii → s < ii → (s + b) % ii ≡ slot → b ≤ slot → s ≡ slot - b
same_round ii b slot s lb ls h l =
    ⊎_elim (λ k. let e : (s + b) % ii ≡ s + b = mod-eq_of_lt k in omega arith)
    (λ k.
    let e : (s + b) % ii ≡ (s + b - ii) % ii = mod-eq-sub-mod k in
    let m : s + b - ii < ii = omega arith in
    let f : (s + b - ii) % ii ≡ s + b - ii = mod-eq_of_lt m in
    absurd (omega arith))
    (cases_lt (s + b) ii)

-- the same in the next round
next_round : (ii b slot s : ℕ) → b < ii → s < ii → (s + b) % ii ≡ slot → slot < b → s ≡ slot + (ii - b)
next_round ii b slot s lb ls h l =
    ⊎_elim (λ k. let e : (s + b) % ii ≡ s + b = mod-eq_of_lt k in absurd (omega arith))
    (λ k.
    let e : (s + b) % ii ≡ (s + b - ii) % ii = mod-eq-sub-mod k in
    let m : s + b - ii < ii = omega arith in
    let f : (s + b - ii) % ii ≡ s + b - ii = mod-eq_of_lt m in
    omega arith)
    (cases_lt (s + b) ii)

module _ (ii slot k c : ℕ) (p : 0 < ii) (h : c % ii ≡ slot) (l : k ≤ c) where
  together : ((c - k) % ii + k % ii) % ii ≡ slot
  together = let e : c - k + k ≡ c = omega arith in sym (add-mod (c - k) k ii) ∙ ap (λ (m : ℕ). m % ii) e ∙ h

  -- the slot of cycle c - k, where cycle c has that slot
  pub before_low : k % ii ≤ slot → (c - k) % ii ≡ slot - k % ii
  before_low low = same_round ii (k % ii) slot ((c - k) % ii) (mod_below k ii p) (mod_below (c - k) ii p) together low

  pub before_high : slot < k % ii → (c - k) % ii ≡ slot + (ii - k % ii)
  before_high high = next_round ii (k % ii) slot ((c - k) % ii) (mod_below k ii p) (mod_below (c - k) ii p) together high

-- the same for the interval of a configuration
pub before_at : (ii interval slot k at : ℕ) → ii ≡ interval →
    ((c : ℕ) → c % ii ≡ slot → k ≤ c → (c - k) % ii ≡ at) →
    (c : ℕ) → c % interval ≡ slot → k ≤ c → (c - k) % interval ≡ at
before_at ii interval slot k at e h = subst (λ (m : ℕ). (c : ℕ) → c % m ≡ slot → k ≤ c → (c - k) % m ≡ at) e h
