-- What stands in different slots of a place, counted.
use Rattle.std.proofs.Common.{◌≡◌, ℕ, zero, suc, ◌<◌, ◌≤◌, cond, eqb, Bool, true, false, refl, sym, ◌∙◌, arith, ⊎_elim, eqb-true}
use Rattle.std.proofs.lemmas.Bool.{cases_eq}
use Rattle.cg_class.proofs.Balance.{one_if, on}
use Rattle.cg_class.proofs.Totals.{total_le, by_place}
use Rattle.cg_model.proofs.Sums.{total, total_zero}

-- a sum of which at most one part is not 0, and none above 1
at_most_one : (n : ℕ) (f : ℕ → ℕ) → ((k : ℕ) → k < n → f k ≤ 1) → ((j k : ℕ) → j < n → k < n → (f j ≡ 0 → ⊥) → (f k ≡ 0 → ⊥) → j ≡ k) → total n f ≤ 1
at_most_one zero f h g = omega arith
at_most_one (suc n) f h g =
    ⊎_elim
    (λ (e : f n ≡ 0). omega (arith, at_most_one n f (λ k l. h k (omega arith)) (λ j k l m. g j k (omega arith) (omega arith))))
    (λ ne. let z = total_zero n f (λ k l. ⊎_elim (λ (e : f k ≡ 0). e) (λ me. absurd (let q = g k n (omega arith) (omega arith) me ne in omega arith)) (cases_eq (f k) 0)) in omega (arith, z, h n (omega arith)))
    (cases_eq (f n) 0)

pub total_ones : (n : ℕ) → total n (λ k. 1) ≡ n
total_ones zero = refl
total_ones (suc n) = omega (arith, total_ones n)

-- what stands in different slots of a place
pub slots : (N ii : ℕ) (place slot : ℕ → ℕ) (x : ℕ) → ((v : ℕ) → v < N → slot v < ii) → ((v w : ℕ) → v < N → w < N → place v ≡ x → place w ≡ x → slot v ≡ slot w → v ≡ w) → on N place x ≤ ii
slots N ii place slot x within apart =
    let a = by_place N ii slot (λ v. one_if (eqb (place v) x)) within in
    let b : total ii (λ t. total N (λ v. cond (eqb (slot v) t) (one_if (eqb (place v) x)) 0)) ≤ total ii (λ t. 1) =
    total_le ii _ _
    (λ t l. at_most_one N (λ v. cond (eqb (slot v) t) (one_if (eqb (place v) x)) 0) (λ v m. small (eqb (slot v) t) (eqb (place v) x))
    (λ v w m n p q. let (c, d) = both v t p in let (e, f) = both w t q in apart v w m n d f (c ∙ sym e)))
    in
    let c = total_ones ii in
    omega arith
  where
    small : (b c : Bool) → cond b (one_if c) 0 ≤ 1
    small true true = omega arith
    small true false = omega arith
    small false c = omega arith

    both_by : (b c : Bool) → (cond b (one_if c) 0 ≡ 0 → ⊥) → (b ≡ true) × (c ≡ true)
    both_by true true h = (refl, refl)
    both_by true false h = absurd (h refl)
    both_by false c h = absurd (h refl)

    both : (v t : ℕ) → (cond (eqb (slot v) t) (one_if (eqb (place v) x)) 0 ≡ 0 → ⊥) → (slot v ≡ t) × (place v ≡ x)
    both v t h = let (a, b) = both_by (eqb (slot v) t) (eqb (place v) x) h in (eqb-true (slot v) t a, eqb-true (place v) x b)
