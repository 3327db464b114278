-- Nodes against units, by counting.
use Rattle.std.proofs.Common.{◌≡◌, ℕ, ◌*◌, ◌<◌, ◌≤◌, cond, eqb, Bool, true, false, refl, sym, ap, ◌∙◌, subst, arith, ⊎_elim, eqb-true}
use Rattle.std.specs.Prelude.{◌⊎◌}
use Rattle.std.proofs.lemmas.Bool.{cond-true, cond-false, cases_Bool}
use Rattle.cg_class.proofs.Totals.{total_le, total_times, by_place}
use Rattle.cg_model.proofs.Sums.{total, total_same, total_zero}

abbrev pub one_if : Bool → ℕ
one_if b = cond b 1 0

-- how many of the first N stand on x
abbrev pub on : ℕ → (ℕ → ℕ) → ℕ → ℕ
on N place x = total N (λ v. one_if (eqb (place v) x))

inner_le : (b c : Bool) → cond b (one_if c) 0 ≤ one_if b
inner_le true true = omega arith
inner_le true false = omega arith
inner_le false c = omega arith

module _ (N U ii : ℕ) (place : ℕ → ℕ) (chosen meets : ℕ → Bool) (within : (v : ℕ) → v < N → place v < U) where
  -- at most ii on each unit, and the chosen ones on units that meet: they are at most ii times those
  pub at_most : ((x : ℕ) → x < U → on N place x ≤ ii) → ((v : ℕ) → v < N → chosen v ≡ true → meets (place v) ≡ true) →
      total N (λ v. one_if (chosen v)) ≤ ii * total U (λ x. one_if (meets x))
  at_most room offered =
      let a = by_place N U place (λ v. one_if (chosen v)) within in
      let b : total U (λ x. total N (λ v. cond (eqb (place v) x) (one_if (chosen v)) 0)) ≤ total U (λ x. ii * one_if (meets x)) =
      total_le U _ _
      (λ x l.
      ⊎_elim
      (λ t.
      let c : total N (λ v. cond (eqb (place v) x) (one_if (chosen v)) 0) ≤ on N place x = total_le N _ _ (λ v m. inner_le (eqb (place v) x) (chosen v)) in
      let d = room x l in
      let e = cond-true (meets x) 1 0 t in
      let f = ap (λ z. ii * z) e in
      omega arith)
      (λ t. let c = total_zero N (λ v. cond (eqb (place v) x) (one_if (chosen v)) 0) (λ v m. none x v m t (cases_Bool (eqb (place v) x)) (cases_Bool (chosen v))) in omega arith)
      (cases_Bool (meets x)))
      in
      let g = total_times U ii (λ x. one_if (meets x)) in
      omega arith
    where
      none : (x v : ℕ) → v < N → meets x ≡ false → (eqb (place v) x ≡ true) ⊎ (eqb (place v) x ≡ false) → (chosen v ≡ true) ⊎ (chosen v ≡ false) → cond (eqb (place v) x) (one_if (chosen v)) 0 ≡ 0
      none x v m t a b =
          ⊎_elim
          (λ p.
          ⊎_elim (λ q. let e = eqb-true (place v) x p in let h = offered v m q in let h' = subst (λ z. meets z ≡ true) e h in absurd (cc))
          (λ q. cond-true (eqb (place v) x) (one_if (chosen v)) 0 p ∙ cond-false (chosen v) 1 0 q)
          b)
          (λ p. cond-false (eqb (place v) x) (one_if (chosen v)) 0 p)
          a

  -- at least ii on each unit that meets, and those on them chosen: they are at least ii times those
  pub at_least : ((x : ℕ) → x < U → meets x ≡ true → ii ≤ on N place x) → ((v : ℕ) → v < N → meets (place v) ≡ true → chosen v ≡ true) →
      ii * total U (λ x. one_if (meets x)) ≤ total N (λ v. one_if (chosen v))
  at_least full kept =
      let a = by_place N U place (λ v. one_if (chosen v)) within in
      let b : total U (λ x. ii * one_if (meets x)) ≤ total U (λ x. total N (λ v. cond (eqb (place v) x) (one_if (chosen v)) 0)) =
      total_le U _ _
      (λ x l.
      ⊎_elim
      (λ t.
      let c : total N (λ v. cond (eqb (place v) x) (one_if (chosen v)) 0) ≡ on N place x =
      total_same N _ _ (λ v m. ⊎_elim (λ p. let e = eqb-true (place v) x p in let h : chosen v ≡ true = kept v m (subst (λ z. meets z ≡ true) (sym e) t) in rw (p, h) refl) (λ p. rw p refl) (cases_Bool (eqb (place v) x)))
      in
      let d = full x l t in
      let e = cond-true (meets x) 1 0 t in
      let f = ap (λ z. ii * z) e in
      omega arith)
      (λ t. let e = cond-false (meets x) 1 0 t in let f = ap (λ z. ii * z) e in omega arith)
      (cases_Bool (meets x)))
      in
      let g = total_times U ii (λ x. one_if (meets x)) in
      omega arith
