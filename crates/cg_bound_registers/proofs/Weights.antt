-- Sums over weighted edges.
use Rattle.std.proofs.Common.{◌≡◌, ℕ, ◌+◌, ◌*◌, ◌<◌, ◌≤◌, List, [], ◌∷◌, Option, Some, None, eqb, refl, sym, ap, ◌∙◌, arith, ⊎_elim, eqb-true, eq-eqb}
use Rattle.std.proofs.Math.Nat.{mul-le-mul_left}
use Rattle.std.proofs.lemmas.Bool.{cond-true, cond-false, cases_Bool}
use Rattle.cg_bound_registers.specs.Pressure.{Dependence, on_edge, weigh, one_if, total}
use Rattle.cg_bound_registers.proofs.Totals.{total_same, total_zero, total_one, total_sum, total_times}

-- the sum of g over one end of the edges is the sum over the nodes of g times the edges that end there
module _ (n : ℕ) (end : Dependence → ℕ) (g : ℕ → ℕ) where
  one_edge : (a : Dependence) → end a < n → g (end a) ≡ total n (λ w. g w * one_if (eqb (end a) w))
  one_edge a l =
      sym (total_one n (end a) (λ w. g w * one_if (eqb (end a) w)) l
      (λ w m ne. ⊎_elim (λ t. absurd (ne (sym (eqb-true (end a) w t)))) (λ t. let e = ap (λ z. g w * z) (cond-false (eqb (end a) w) 1 0 t) in omega arith) (cases_Bool (eqb (end a) w)))
      ∙ (let e = ap (λ z. g (end a) * z) (cond-true (eqb (end a) (end a)) 1 0 (eq-eqb (end a) (end a) refl)) in omega arith))

  maybe_edge : (o : Option Dependence) → ((a : Dependence) → o ≡ Some a → end a < n) → on_edge (λ a. g (end a)) o ≡ total n (λ w. g w * on_edge (λ a. one_if (eqb (end a) w)) o)
  maybe_edge None h = sym (total_zero n (λ w. g w * 0) (λ w l. omega arith))
  maybe_edge (Some a) h = one_edge a (h a refl)

  pub by_node : {X : Type 0} (weight : X → ℕ) (arc : X → Option Dependence) (xs : List X) → ((x : X) (a : Dependence) → arc x ≡ Some a → end a < n) →
      weigh weight arc (λ a. g (end a)) xs ≡ total n (λ w. g w * weigh weight arc (λ a. one_if (eqb (end a) w)) xs)
  by_node weight arc [] h = sym (total_zero n (λ w. g w * 0) (λ w l. omega arith))
  by_node weight arc (x ∷ xs) h =
      let a = maybe_edge (arc x) (h x) in
      let b = by_node weight arc xs h in
      let c = total_times n (weight x) (λ w. g w * on_edge (λ a. one_if (eqb (end a) w)) (arc x)) in
      let d = total_sum n (λ w. weight x * (g w * on_edge (λ a. one_if (eqb (end a) w)) (arc x))) (λ w. g w * weigh weight arc (λ a. one_if (eqb (end a) w)) xs) in
      let e : total n (λ w. weight x * (g w * on_edge (λ a. one_if (eqb (end a) w)) (arc x)) + g w * weigh weight arc (λ a. one_if (eqb (end a) w)) xs)
      ≡ total n (λ w. g w * (weight x * on_edge (λ a. one_if (eqb (end a) w)) (arc x) + weigh weight arc (λ a. one_if (eqb (end a) w)) xs)) =
      total_same n _ _ (λ w l. spread (weight x) (g w) (on_edge (λ a. one_if (eqb (end a) w)) (arc x)) (weigh weight arc (λ a. one_if (eqb (end a) w)) xs))
      in
      let f = ap (λ z. weight x * z) a in
      omega arith
    where
      spread : (k g o r : ℕ) → k * (g * o) + g * r ≡ g * (k * o + r)
      spread k g o r = omega arith

-- where an inequality holds of each edge, it holds of the sums
module _ {X : Type 0} (weight : X → ℕ) (arc : X → Option Dependence) (f g h k : Dependence → ℕ) (ii : ℕ) where
  one_bound : (w : ℕ) (o : Option Dependence) → ((a : Dependence) → o ≡ Some a → f a + g a + h a ≤ k a + ii * a.distance) →
      w * on_edge f o + w * on_edge g o + w * on_edge h o ≤ w * on_edge k o + ii * (w * on_edge (λ a. a.distance) o)
  one_bound w None each = omega arith
  one_bound w (Some a) each = times w (f a) (g a) (h a) (k a) a.distance (each a refl)
    where
      times : (w f g h k d : ℕ) → f + g + h ≤ k + ii * d → w * f + w * g + w * h ≤ w * k + ii * (w * d)
      times w f g h k d e = let m = mul-le-mul_left {m = f + g + h} {n = k + ii * d} w e in omega arith

  pub bound : (xs : List X) → ((x : X) (a : Dependence) → arc x ≡ Some a → f a + g a + h a ≤ k a + ii * a.distance) →
      weigh weight arc f xs + weigh weight arc g xs + weigh weight arc h xs ≤ weigh weight arc k xs + ii * weigh weight arc (λ a. a.distance) xs
  bound [] each = omega arith
  bound (x ∷ xs) each =
      let a = one_bound (weight x) (arc x) (each x) in
      let b = bound xs each in
      omega arith
