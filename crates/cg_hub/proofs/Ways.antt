-- The way of a value through its registers, and the positions on it.
use Rattle.std.proofs.Common.{◌≡◌, ℕ, zero, suc, ◌+◌, ◌<◌, ◌≤◌, [], ◌∷◌, ◌++◌, Some, refl, sym, arith, Contains, ⊎_elim, inl, inr, add-one}
use Rattle.std.specs.Prelude.{◌⊎◌, map}
use Rattle.std.specs.List.{range_with_len}
use Rattle.cg_model.specs.Array.{Arch, resource, delay}
use Rattle.cg_model.specs.Mapping.{Position, Goes, positions_after}
use Rattle.cg_overlap.proofs.Facts.{Contains-cases}
use Rattle.cg_model.proofs.Lookups.{Contains-nil}

-- through f k, .., f (k + n - 1) to a port
module _ (A : Arch) (f : ℕ → ℕ) (to : ℕ) where
  pub goes : (n k q t end : ℕ) → ((j : ℕ) → k ≤ j → j < k + n → delay A (f j) ≡ 1) → delay A to ≡ 0 →
      ((j : ℕ) → k ≤ j → j < k + n → Contains (resource A (f j)).drivers q) → (n ≡ 0 → Contains (resource A to).drivers q) →
      ((i j : ℕ) → k ≤ i → i < k + n → k ≤ j → j < k + n → Contains (resource A (f j)).drivers (f i)) →
      ((j : ℕ) → k ≤ j → j < k + n → Contains (resource A to).drivers (f j)) →
      end ≡ t + n → Goes A q t (map f (range_with_len k n) ++ to ∷ []) to end
  goes zero k q t end slow now hears here among out e = (here refl, (refl, omega (arith, now, e)))
  goes (suc n) k q t end slow now hears here among out e = (
    hears k (omega arith) (omega arith),
    goes n (k + 1) (f k) (t + delay A (f k)) end (λ j a b. slow j (omega arith) (omega arith)) now (λ j a b. among k j (omega arith) (omega arith) (omega arith) (omega arith)) (λ z. out k (omega arith) (omega arith))
        (λ i j a b c d. among i j (omega arith) (omega arith) (omega arith) (omega arith)) (λ j a b. out j (omega arith) (omega arith)) (omega (arith, slow k (omega arith) (omega arith), e)),
  )

-- where the value comes from, in its k'th register
abbrev pub came : (ℕ → ℕ) → ℕ → ℕ → ℕ
came f from zero = from
came f from (suc k) = f k

abbrev pub staying : (ℕ → ℕ) → ℕ → ℕ → ℕ → ℕ → Position
staying f u from t k = record { source = u; resource = f k; time = t + k + 1; from = Some (came f from k) }

abbrev pub ending : (ℕ → ℕ) → ℕ → ℕ → ℕ → ℕ → ℕ → Position
ending f u from t to n = record { source = u; resource = to; time = t + n; from = Some (came f from n) }

module _ (A : Arch) (f : ℕ → ℕ) (u from t to : ℕ) (now : delay A to ≡ 0) where
  pub stays : (n k q s : ℕ) (p : Position) → ((j : ℕ) → k ≤ j → j < k + n → delay A (f j) ≡ 1) → s ≡ t + k → q ≡ came f from k →
      Contains (positions_after A u q s (map f (range_with_len k n) ++ to ∷ [])) p →
      ((j : ℕ) × (k ≤ j) × (j < k + n) × (p ≡ staying f u from t j)) ⊎ (p ≡ ending f u from t to (k + n))
  stays zero k q s p slow e g m =
      ⊎_elim (λ h. inr (let z : k + 0 ≡ k = omega arith in let y : s + delay A to ≡ t + k = omega (arith, now) in rw (z, ← y, ← g) (sym h))) (λ h. absurd (Contains-nil p h)) (Contains-cases p _ [] m)
  stays (suc n) k q s p slow e g m =
      ⊎_elim
      (λ h. inl (k, omega arith, omega arith, (let y : s + delay A (f k) ≡ t + k + 1 = omega (arith, slow k (omega arith) (omega arith)) in rw (← y, ← g) (sym h))))
      (λ h. let z : k + 1 + n ≡ k + suc n = omega arith in
      ⊎_elim (λ w. inl (w.0, omega (arith, w.1), omega (arith, w.2), w.3)) (λ w. inr (rw z at w))
      (stays n (k + 1) (f k) (s + delay A (f k)) p (λ j a b. slow j (omega arith) (omega arith)) (omega (arith, slow k (omega arith) (omega arith))) (rw add-one refl) h))
      (Contains-cases p _ _ m)
