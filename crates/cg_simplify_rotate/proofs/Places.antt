-- The numbers of nodes of which node u was moved to just before node v.
use Rattle.std.proofs.Common.{◌≡◌, ℕ, ◌+◌, ◌-◌, ◌<◌, ◌≤◌, true, false, eqb, refl, sym, ◌∙◌, arith, ⊎_elim}
use Rattle.std.proofs.lemmas.Bool.{cases_lt, cases_Bool, lt-ltb, le-ltb, eqb-true, eqb-false}
use Rattle.cg_simplify_rotate.specs.Moving.{number_of, place_from}

module _ (u v : ℕ) where
  pub from_cases : (P : ℕ → Type 0) (k : ℕ) → (k < u → P k) → (u ≤ k → k < v → k + 1 ≡ v → P u) → (u ≤ k → k + 1 < v → P (k + 1)) → (u ≤ k → v ≤ k → P k) → P (place_from u v k)
  from_cases P k below last between above =
      ⊎_elim
      (λ (a : k < u). rw (lt-ltb k u a) (below a))
      (λ (a : u ≤ k).
      ⊎_elim
      (λ (b : k < v).
      ⊎_elim
      (λ (c : eqb (k + 1) v ≡ true). rw (le-ltb k u a, lt-ltb k v b, c) (last a b (eqb-true (k + 1) v c)))
      (λ (c : eqb (k + 1) v ≡ false).
      let ne : k + 1 ≡ v → ⊥ = eqb-false (k + 1) v c in
      rw (le-ltb k u a, lt-ltb k v b, c) (between a (omega arith)))
      (cases_Bool (eqb (k + 1) v)))
      (λ (b : v ≤ k). rw (le-ltb k u a, le-ltb k v b) (above a b))
      (cases_lt k v))
      (cases_lt k u)

  pub number_cases : (P : ℕ → Type 0) (w : ℕ) → (w < u → P w) → (w < v → w ≡ u → P (v - 1)) → (u < w → w < v → P (w - 1)) → (u ≤ w → v ≤ w → P w) → P (number_of u v w)
  number_cases P w below at between above =
      ⊎_elim
      (λ (a : w < u). rw (lt-ltb w u a) (below a))
      (λ (a : u ≤ w).
      ⊎_elim
      (λ (b : w < v).
      ⊎_elim
      (λ (c : eqb w u ≡ true). rw (le-ltb w u a, lt-ltb w v b, c) (at b (eqb-true w u c)))
      (λ (c : eqb w u ≡ false).
      let ne : w ≡ u → ⊥ = eqb-false w u c in
      rw (le-ltb w u a, lt-ltb w v b, c) (between (omega arith) b))
      (cases_Bool (eqb w u)))
      (λ (b : v ≤ w). rw (le-ltb w u a, le-ltb w v b) (above a b))
      (cases_lt w v))
      (cases_lt w u)

  -- each place by itself
  pub from_below : (k : ℕ) → k < u → place_from u v k ≡ k
  from_below k l = from_cases (λ x. x ≡ k) k (λ a. refl) (λ a b c. absurd (omega arith)) (λ a b. absurd (omega arith)) (λ a b. refl)

  pub from_last : u < v → place_from u v (v - 1) ≡ u
  from_last l = from_cases (λ x. x ≡ u) (v - 1) (λ a. absurd (omega arith)) (λ a b c. refl) (λ a b. absurd (omega arith)) (λ a b. absurd (omega arith))

  pub from_between : (k : ℕ) → u ≤ k → k + 1 < v → place_from u v k ≡ k + 1
  from_between k a b = from_cases (λ x. x ≡ k + 1) k (λ x. absurd (omega arith)) (λ x y z. absurd (omega arith)) (λ x y. refl) (λ x y. absurd (omega arith))

  pub from_above : (k : ℕ) → u ≤ k → v ≤ k → place_from u v k ≡ k
  from_above k a b = from_cases (λ x. x ≡ k) k (λ x. refl) (λ x y z. absurd (omega arith)) (λ x y. absurd (omega arith)) (λ x y. refl)

  pub number_below : (w : ℕ) → w < u → number_of u v w ≡ w
  number_below w l = number_cases (λ x. x ≡ w) w (λ a. refl) (λ a b. absurd (omega arith)) (λ a b. absurd (omega arith)) (λ a b. refl)

  pub number_at : u < v → number_of u v u ≡ v - 1
  number_at l = number_cases (λ x. x ≡ v - 1) u (λ a. absurd (omega arith)) (λ a b. refl) (λ a b. absurd (omega arith)) (λ a b. absurd (omega arith))

  pub number_between : (w : ℕ) → u < w → w < v → number_of u v w ≡ w - 1
  number_between w a b = number_cases (λ x. x ≡ w - 1) w (λ x. absurd (omega arith)) (λ x y. absurd (omega arith)) (λ x y. refl) (λ x y. absurd (omega arith))

  pub number_above : (w : ℕ) → u ≤ w → v ≤ w → number_of u v w ≡ w
  number_above w a b = number_cases (λ x. x ≡ w) w (λ x. refl) (λ x y. absurd (omega arith)) (λ x y. absurd (omega arith)) (λ x y. refl)

module _ (u v : ℕ) (less : u < v) where
  -- the one undoes the other
  pub back : (w : ℕ) → place_from u v (number_of u v w) ≡ w
  back w =
      number_cases u v (λ x. place_from u v x ≡ w) w
      (λ a. from_below u v w a)
      (λ a e. from_last u v less ∙ sym e)
      (λ a b. from_between u v (w - 1) (omega arith) (omega arith) ∙ omega arith)
      (λ a b. from_above u v w a b)

  pub there : (k : ℕ) → number_of u v (place_from u v k) ≡ k
  there k =
      from_cases u v (λ x. number_of u v x ≡ k) k
      (λ a. number_below u v k a)
      (λ a b e. number_at u v less ∙ omega arith)
      (λ a b. number_between u v (k + 1) (omega arith) (omega arith) ∙ omega arith)
      (λ a b. number_above u v k a b)

  pub from_inside : (n k : ℕ) → v < n → k < n → place_from u v k < n
  from_inside n k a b = from_cases u v (λ x. x < n) k (λ c. b) (λ c d e. omega arith) (λ c d. omega arith) (λ c d. b)

  pub number_inside : (n w : ℕ) → v < n → w < n → number_of u v w < n
  number_inside n w a b = number_cases u v (λ x. x < n) w (λ c. b) (λ c d. omega arith) (λ c d. omega arith) (λ c d. b)

  -- all nodes but u keep their order
  pub rises : (j k : ℕ) → j < k → (place_from u v j ≡ u → ⊥) → (place_from u v k ≡ u → ⊥) → place_from u v j < place_from u v k
  rises j k l =
      from_cases u v (λ x. (x ≡ u → ⊥) → (place_from u v k ≡ u → ⊥) → x < place_from u v k) j
      (λ a ne. from_cases u v (λ y. (y ≡ u → ⊥) → j < y) k (λ c no. l) (λ c d e no. absurd (no refl)) (λ c d no. omega arith) (λ c d no. l))
      (λ a b e ne no. absurd (ne refl))
      (λ a b ne. from_cases u v (λ y. (y ≡ u → ⊥) → j + 1 < y) k (λ c no. absurd (omega arith)) (λ c d e no. absurd (no refl)) (λ c d no. omega arith) (λ c d no. omega arith))
      (λ a b ne. from_cases u v (λ y. (y ≡ u → ⊥) → j < y) k (λ c no. absurd (omega arith)) (λ c d e no. absurd (no refl)) (λ c d no. absurd (omega arith)) (λ c d no. l))

  -- u is still before v and all later nodes
  pub forward : (s w : ℕ) → s < w → (s ≡ u → v ≤ w) → number_of u v s < number_of u v w
  forward s w l far =
      number_cases u v (λ x. x < number_of u v w) s
      (λ a. number_cases u v (λ y. s < y) w (λ c. l) (λ c d. omega arith) (λ c d. omega arith) (λ c d. l))
      (λ a e. let z = far e in number_cases u v (λ y. v - 1 < y) w (λ c. absurd (omega arith)) (λ c d. absurd (omega arith)) (λ c d. absurd (omega arith)) (λ c d. omega arith))
      (λ a b. number_cases u v (λ y. s - 1 < y) w (λ c. absurd (omega arith)) (λ c d. absurd (omega arith)) (λ c d. omega arith) (λ c d. omega arith))
      (λ a b. number_cases u v (λ y. s < y) w (λ c. absurd (omega arith)) (λ c d. absurd (omega arith)) (λ c d. absurd (omega arith)) (λ c d. l))
