-- A sum over some of the terms of another one.
use Rattle.std.proofs.Common.{◌≡◌, ℕ, zero, suc, ◌+◌, ◌<◌, ◌≤◌, eqb, refl, sym, ap, ◌∙◌, arith, ⊎_elim}
use Rattle.std.specs.Prelude.{if◌then◌else◌}
use Rattle.std.proofs.lemmas.Bool.{cases_eq, cond-true, cond-false, eq-eqb, ne_eqb}
use Rattle.cg_model.proofs.Sums.{total, total_same, total_one, total_sum}

-- a term alone, and all terms but it
abbrev only : ℕ → (ℕ → ℕ) → ℕ → ℕ
only x c u = if eqb u x then c u else 0

abbrev but : ℕ → (ℕ → ℕ) → ℕ → ℕ
but x c u = if eqb u x then 0 else c u

split : (x : ℕ) (c : ℕ → ℕ) (u : ℕ) → but x c u + only x c u ≡ c u
split x c u =
    ⊎_elim
    (λ e. let t = eq-eqb u x e in let p = cond-true (eqb u x) 0 (c u) t in let q = cond-true (eqb u x) (c u) 0 t in omega arith)
    (λ e. let t = ne_eqb u x e in let p = cond-false (eqb u x) 0 (c u) t in let q = cond-false (eqb u x) (c u) 0 t in omega arith)
    (cases_eq u x)

without : (k x : ℕ) (c : ℕ → ℕ) → x < k → total k (but x c) + c x ≡ total k c
without k x c l =
    let one : total k (only x c) ≡ c x =
    total_one k x (only x c) l (λ j b e. cond-false (eqb j x) (c j) 0 (ne_eqb j x e)) ∙ cond-true (eqb x x) (c x) 0 (eq-eqb x x refl) in
    ap (λ z. total k (but x c) + z) (sym one) ∙ total_sum k (but x c) (only x c) ∙ total_same k (λ u. but x c u + only x c u) c (λ u b. split x c u)

pub total_some : (m k : ℕ) (f g c : ℕ → ℕ) → ((v : ℕ) → v < m → f v < k) → ((v w : ℕ) → v < m → w < m → f v ≡ f w → v ≡ w) →
    ((v : ℕ) → v < m → g v ≤ c (f v)) → total m g ≤ total k c
total_some zero k f g c inside apart less = omega arith
total_some (suc m) k f g c inside apart less =
    let x = f m in
    let rest : total m g ≤ total k (but (f m) c) =
    total_some m k f g (but (f m) c) (λ v l. inside v (omega arith)) (λ v w l b. apart v w (omega arith) (omega arith))
    (λ v l.
    let ne : f v ≡ f m → ⊥ = λ e. let z : v ≡ m = apart v m (omega arith) (omega arith) e in omega arith in
    let same = cond-false (eqb (f v) (f m)) 0 (c (f v)) (ne_eqb (f v) (f m) ne) in
    let b : g v ≤ c (f v) = less v (omega arith) in
    omega arith) in
    let all : total k (but (f m) c) + c (f m) ≡ total k c = without k (f m) c (inside m (omega arith)) in
    let last : g m ≤ c (f m) = less m (omega arith) in
    omega arith
