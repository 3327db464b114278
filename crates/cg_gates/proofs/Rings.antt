-- A ring of numbers, turned about.
use Rattle.std.proofs.Common.{◌≡◌, ℕ, zero, suc, ◌+◌, ◌-◌, ◌<◌, ◌≤◌, ◌⊎◌, inl, inr, List, [], ◌∷◌, length, reverse, refl, ap, sym, ◌∙◌, subst₂, arith, ⊎_elim}
use Rattle.std.specs.Prelude.{slice_index}
use Rattle.std.proofs.lemmas.List.{length-reverse, get_or-reverse}

-- the numbers in the other direction, from the first on
abbrev pub turned : List ℕ → List ℕ
turned [] = []
turned (x ∷ xs) = x ∷ reverse xs

-- each number is tied to the next, and the last to the first; none is there twice, and the least is first
pub record IsRing (R : ℕ → ℕ → Type 0) (ring : List ℕ) : Type 0 where
  pub some : 0 < length ring
  pub once : (j k : ℕ) → j < length ring → k < length ring → slice_index ring j ≡ slice_index ring k → j ≡ k
  pub links : (k : ℕ) → k + 1 < length ring → R (slice_index ring k) (slice_index ring (k + 1))
  pub closed : R (slice_index ring (length ring - 1)) (slice_index ring 0)
  pub least : (k : ℕ) → k < length ring → slice_index ring 0 ≤ slice_index ring k

pub turned_long : (ring : List ℕ) → length (turned ring) ≡ length ring
turned_long [] = refl
turned_long (x ∷ xs) = ap suc (length-reverse xs)

-- number k of the turned ring is number p of the ring
pub record IsTurned (ring : List ℕ) (k p : ℕ) : Type 0 where
  pub at : slice_index (turned ring) k ≡ slice_index ring p
  pub within : p < length ring
  pub way : ((k ≡ 0) × (p ≡ 0)) ⊎ ((0 < k) × (k + p ≡ length ring))

pub turned_at : (ring : List ℕ) (k : ℕ) → k < length ring → (p : ℕ) × IsTurned ring k p
turned_at [] k l = absurd (omega arith)
turned_at (x ∷ xs) zero l = (0, record { at = refl; within = omega arith; way = inl (refl, refl) })
turned_at (x ∷ xs) (suc k) l = (
  suc (length xs - 1 - k),
  record { at = get_or-reverse xs k 0 (omega arith); within = omega arith; way = inr (omega arith, omega arith) },
)

module _ (R : ℕ → ℕ → Type 0) (ring : List ℕ) (is : IsRing R ring) where
  tied : (a b p q : ℕ) → a ≡ slice_index ring p → b ≡ slice_index ring q → R (slice_index ring p) (slice_index ring q) → R a b
  tied a b p q e f h = subst₂ R (sym e) (sym f) h

  next : (p q : ℕ) → p + 1 ≡ q → q < length ring → R (slice_index ring p) (slice_index ring q)
  next p q e l = subst₂ (λ i j. R (slice_index ring i) (slice_index ring j)) refl e (is.links p (omega arith))

  round : (p q : ℕ) → p + 1 ≡ length ring → q ≡ 0 → R (slice_index ring p) (slice_index ring q)
  round p q e f = subst₂ (λ i j. R (slice_index ring i) (slice_index ring j)) (let same : length ring - 1 ≡ p = omega arith in same) (sym f) is.closed

  turned_once : (j k : ℕ) → j < length ring → k < length ring → slice_index (turned ring) j ≡ slice_index (turned ring) k → j ≡ k
  turned_once j k lj lk e =
      let (p, a) = turned_at ring j lj in
      let (q, b) = turned_at ring k lk in
      let same : p ≡ q = is.once p q a.within b.within (sym a.at ∙ e ∙ b.at) in
      ⊎_elim (λ x. ⊎_elim (λ y. omega (arith, x.0, y.0)) (λ y. absurd (omega (arith, x.1, y.1, b.within))) b.way)
      (λ x. ⊎_elim (λ y. absurd (omega (arith, x.1, y.1, a.within))) (λ y. omega (arith, x.1, y.1)) b.way)
      a.way

  turned_link : (k : ℕ) → k + 1 < length ring → R (slice_index (turned ring) (k + 1)) (slice_index (turned ring) k)
  turned_link k l =
      let (p, a) = turned_at ring k (omega arith) in
      let (q, b) = turned_at ring (k + 1) l in
      let tie : R (slice_index ring q) (slice_index ring p) =
      ⊎_elim (λ x. ⊎_elim (λ y. absurd (omega (arith, y.0))) (λ y. round q p (omega (arith, x.0, y.1)) x.1) b.way)
      (λ x. ⊎_elim (λ y. absurd (omega (arith, y.0))) (λ y. next q p (omega (arith, x.1, y.1)) a.within) b.way)
      a.way in
      tied (slice_index (turned ring) (k + 1)) (slice_index (turned ring) k) q p b.at a.at tie

  turned_close : R (slice_index (turned ring) 0) (slice_index (turned ring) (length ring - 1))
  turned_close =
      let some : 0 < length ring = is.some in
      let (p, a) = turned_at ring 0 some in
      let (q, b) = turned_at ring (length ring - 1) (omega arith) in
      let tie : R (slice_index ring p) (slice_index ring q) =
      ⊎_elim (λ x. ⊎_elim (λ y. round p q (omega (arith, x.1, y.0)) y.1) (λ y. next p q (omega (arith, x.1, y.1)) b.within) b.way)
      (λ x. absurd (omega (arith, x.0)))
      a.way in
      tied (slice_index (turned ring) 0) (slice_index (turned ring) (length ring - 1)) p q a.at b.at tie

  turned_least : (k : ℕ) → k < length ring → slice_index (turned ring) 0 ≤ slice_index (turned ring) k
  turned_least k l =
      let some : 0 < length ring = is.some in
      let (p, a) = turned_at ring 0 some in
      let (q, b) = turned_at ring k l in
      let first : p ≡ 0 = ⊎_elim (λ x. x.1) (λ x. absurd (omega (arith, x.0))) a.way in
      let low = is.least q b.within in
      let one = a.at ∙ ap (slice_index ring) first in
      let two = b.at in
      omega arith

  pub turned_ring : IsRing (λ a b. R b a) (turned ring)
  turned_ring =
      let long = turned_long ring in
      let some : 0 < length ring = is.some in
      let end : length ring - 1 ≡ length (turned ring) - 1 = omega arith in
      record {
        some = omega arith;
        once = λ j k lj lk e. turned_once j k (omega arith) (omega arith) e;
        links = λ k l. turned_link k (omega arith);
        closed = subst₂ (λ i j. R (slice_index (turned ring) i) (slice_index (turned ring) j)) refl end turned_close;
        least = λ k l. turned_least k (omega arith);
      }
