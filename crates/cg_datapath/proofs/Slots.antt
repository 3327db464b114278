-- The slot and the round of the next cycle.
use Rattle.std.proofs.Common.{◌≡◌, ◌≢◌, ℕ, suc, ◌+◌, ◌-◌, ◌*◌, ◌/◌, ◌%◌, ◌<◌, ◌≤◌, ap, ◌∙◌, arith, refl, ⊎_elim}
use Rattle.std.proofs.lemmas.Bool.{cases_lt, le-ltb, lt-ltb}
use Rattle.cg_datapath.specs.Reserved.{comings}
use Rattle.std.proofs.lemmas.Nat.{div-mul-add, mod-mul-add, div-add-mod', mod_below}

-- the rows of the history
pub row_back : (c d : ℕ) → d ≤ 4 → (c % 4 + 4 - d) % 4 ≡ (c + 4 - d) % 4
row_back c d h = omega arith

pub row_now : (c : ℕ) → (suc c + 4 - 1) % 4 ≡ c % 4
row_now c = omega arith

pub row_then : (c d : ℕ) → d ≤ 3 → (suc c + 4 - suc d) % 4 ≡ (c + 4 - d) % 4
row_then c d h = let e : suc c + 4 - suc d ≡ c + 4 - d = omega arith in ap (λ z. z % 4) e

pub row_apart : (c d : ℕ) → 0 < d → d ≤ 3 → (c + 4 - d) % 4 ≢ c % 4
row_apart c d p h e = omega arith

pub row_next : (c : ℕ) → (c % 4 + 1) % 4 ≡ (c + 1) % 4
row_next c = omega arith

module _ (c ii : ℕ) (p : 0 < ii) where
  pub next_within : suc (c % ii) < ii → (suc c % ii ≡ suc (c % ii)) × (suc c / ii ≡ c / ii)
  next_within h =
      let e : suc c ≡ c / ii * ii + suc (c % ii) = omega (arith, div-add-mod' c ii) in
      (ap (λ z. z % ii) e ∙ mod-mul-add (c / ii) ii (suc (c % ii)) h, ap (λ z. z / ii) e ∙ div-mul-add (c / ii) ii (suc (c % ii)) h)

  pub next_round : suc (c % ii) ≡ ii → (suc c % ii ≡ 0) × (suc c / ii ≡ suc (c / ii))
  next_round h =
      let e : suc c ≡ suc (c / ii) * ii + 0 = omega (arith, div-add-mod' c ii) in
      (ap (λ z. z % ii) e ∙ mod-mul-add (suc (c / ii)) ii 0 p, ap (λ z. z / ii) e ∙ div-mul-add (suc (c / ii)) ii 0 p)

-- a slot's own cycle adds one
pub comings_here : (ii s c : ℕ) → 0 < ii → s ≡ c % ii → (comings ii s c ≡ c / ii) × (comings ii s (suc c) ≡ suc (c / ii))
comings_here ii s c p e =
    let b : c % ii < ii = mod_below c ii p in (
      rw (le-ltb s (c % ii) (omega arith)) refl,
      ⊎_elim
          (λ h. let n = next_within c ii p h in let a : suc c % ii ≡ suc (c % ii) = n.0 in rw (lt-ltb s (suc c % ii) (omega arith), n.1) refl)
          (λ h. let n = next_round c ii p (omega arith) in let a : suc c % ii ≡ 0 = n.0 in rw (le-ltb s (suc c % ii) (omega arith), n.1) refl)
          (cases_lt (suc (c % ii)) ii),
    )

-- no cycle takes one away
pub comings_rise : (ii s c : ℕ) → 0 < ii → s < ii → comings ii s c ≤ comings ii s (suc c)
comings_rise ii s c p l =
    let b : c % ii < ii = mod_below c ii p in
    ⊎_elim
    (λ h. let n = next_within c ii p h in let a : suc c % ii ≡ suc (c % ii) = n.0 in let r : suc c / ii ≡ c / ii = n.1 in
    ⊎_elim (λ k. rw (lt-ltb s (c % ii) k, lt-ltb s (suc c % ii) (omega arith)) (omega arith))
    (λ k. rw (le-ltb s (c % ii) k) (⊎_elim (λ q. rw (lt-ltb s (suc c % ii) q) (omega arith)) (λ q. rw (le-ltb s (suc c % ii) q) (omega arith)) (cases_lt s (suc c % ii))))
    (cases_lt s (c % ii)))
    (λ h. let n = next_round c ii p (omega arith) in let a : suc c % ii ≡ 0 = n.0 in let r : suc c / ii ≡ suc (c / ii) = n.1 in
    rw (le-ltb s (suc c % ii) (omega arith)) (⊎_elim (λ k. rw (lt-ltb s (c % ii) k) (omega arith)) (λ k. rw (le-ltb s (c % ii) k) (omega arith)) (cases_lt s (c % ii))))
    (cases_lt (suc (c % ii)) ii)
