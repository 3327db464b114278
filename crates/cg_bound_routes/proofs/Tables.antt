-- Tables of numbers, and what they lack.
use Rattle.std.proofs.Common.{◌≡◌, ℕ, zero, suc, ◌+◌, ◌*◌, ◌/◌, ◌%◌, ◌<◌, ◌≤◌, ◌⊎◌, inl, inr, List, [], ◌∷◌, ◌++◌, length, length-append, get_or, refl, sym, ap, ◌∙◌, subst, arith, ⊎_elim}
use Rattle.std.specs.Prelude.{Option, Some, None, unwrap_or}
use Rattle.std.proofs.lemmas.Bool.{cases_eq, cases_lt}
use Rattle.std.proofs.lemmas.List.{get_or_append_left, get_or-append-add, get_or_past}
use Rattle.std.proofs.lemmas.Option.{slice_get_within}
use Rattle.cg_model.specs.declared.kernel.Operand.TheVariants.{Edge}
use Rattle.cg_model.specs.Kernel.{Kernel, node, size}
use Rattle.cg_model.proofs.Mappings.{operand_within}
use Rattle.cg_bound_routes.specs.declared.missing.Missing.{Missing}
use Rattle.cg_bound_routes.specs.Ways.{IsLeast, hops_of, IsSmall, AreSmall}
use Rattle.cg_bound_routes.specs.Table.{AreThreeANode, IsMissing, IsFirstMissing, HasAllNumbers}

-- a list has three numbers for each of the first `count` rows
pub record AreThreeTo (rows : List (List (Option ℕ))) (count : ℕ) (list : List ℕ) : Type 0 where
  pub each : length list ≡ 3 * count
  pub right : (v p : ℕ) → v < count → p < 3 → get_or list (3 * v + p) 0 ≡ unwrap_or (hops_of rows v p) 0

-- the number of a row
abbrev pub number_of : List (Option ℕ) → ℕ → ℕ
number_of row p = unwrap_or (get_or row p None) 0

three_at : (row : List (Option ℕ)) (a b c : ℕ) → a ≡ number_of row 0 → b ≡ number_of row 1 → c ≡ number_of row 2 → (p : ℕ) → p < 3 → get_or (a ∷ b ∷ c ∷ []) p 0 ≡ number_of row p
three_at row a b c e f g zero l = e
three_at row a b c e f g (suc zero) l = f
three_at row a b c e f g (suc (suc zero)) l = g
three_at row a b c e f g (suc (suc (suc p))) l = absurd (omega arith)

-- one row more
pub three_more : (rows : List (List (Option ℕ))) (count : ℕ) (list : List ℕ) (row : List (Option ℕ)) (a b c : ℕ) → AreThreeTo rows count list → row ≡ get_or rows count [] →
    a ≡ number_of row 0 → b ≡ number_of row 1 → c ≡ number_of row 2 → AreThreeTo rows (count + 1) (list ++ a ∷ b ∷ c ∷ [])
three_more rows count list row a b c h is e f g = record {
  each = let l = h.each in let m = length-append list (a ∷ b ∷ c ∷ []) in omega arith;
  right = λ v p l k.
      ⊎_elim {C = get_or (list ++ a ∷ b ∷ c ∷ []) (3 * v + p) 0 ≡ unwrap_or (hops_of rows v p) 0}
      (λ same.
      let place : 3 * v + p ≡ length list + p = let n = h.each in omega arith in
      ap (λ z. get_or (list ++ a ∷ b ∷ c ∷ []) z 0) place ∙ get_or-append-add list (a ∷ b ∷ c ∷ []) p 0 ∙ three_at row a b c e f g p k ∙ ap (λ z. number_of z p) (is ∙ ap (λ z. get_or rows z []) (sym same)))
      (λ ne. get_or_append_left list (a ∷ b ∷ c ∷ []) 0 (3 * v + p) (let n = h.each in omega arith) ∙ h.right v p (omega arith) k)
      (cases_eq v count);
}

-- all rows
pub three_whole : (rows : List (List (Option ℕ))) (list : List ℕ) → AreThreeTo rows (length rows) list → AreThreeANode rows list
three_whole rows list h = record {
  each = h.each;
  right = λ v p l.
      ⊎_elim {C = get_or list (3 * v + p) 0 ≡ unwrap_or (hops_of rows v p) 0} (λ k. h.right v p k l)
      (λ k. get_or_past list (3 * v + p) 0 (let n = h.each in omega arith) ∙ sym (ap (λ z. number_of z p) (get_or_past rows v [] k)))
      (cases_lt v (length rows));
}

unwrap_small : (n : ℕ) (o : Option ℕ) → IsSmall n o → unwrap_or o 0 ≤ n
unwrap_small n None f = omega arith
unwrap_small n (Some m) f = f m refl

-- the numbers of a list are as small as those of its table
pub three_small : (rows : List (List (Option ℕ))) (list : List ℕ) → AreThreeANode rows list → (n : ℕ) → AreSmall n rows → (i : ℕ) → get_or list i 0 ≤ n
three_small rows list h n f i =
    let place : 3 * (i / 3) + i % 3 ≡ i = omega arith in
    let low : unwrap_or (hops_of rows (i / 3) (i % 3)) 0 ≤ n = unwrap_small n (hops_of rows (i / 3) (i % 3)) (f (i / 3) (i % 3)) in
    let e : get_or list i 0 ≡ unwrap_or (hops_of rows (i / 3) (i % 3)) 0 = ap (λ z. get_or list z 0) (sym place) ∙ h.right (i / 3) (i % 3) (omega arith) in
    omega arith

module _ (K : Kernel) (rows : List (List (Option ℕ))) where
  -- what the first operands of a node lack
  pub least_missing : (v p : ℕ) → ((q : ℕ) → q < p → IsMissing K rows v q → ⊥) → IsMissing K rows v p → IsLeast (IsMissing K rows v) (Some p)
  least_missing v p before here = (here, λ q missing. ⊎_elim {C = p ≤ q} (λ l. absurd (before q l missing)) (λ l. l) (cases_lt q p))

  pub none_missing : (v p : ℕ) → ((q : ℕ) → q < p → IsMissing K rows v q → ⊥) → length (node K v).operands ≤ p → IsLeast (IsMissing K rows v) None
  none_missing v p before all q (u, d, init, h, none) =
      let l = slice_get_within (node K v).operands q (Edge u d init) h in
      before q (omega arith) (u, d, init, h, none)

  -- one more is not missing
  pub present_more : (v p : ℕ) → ((q : ℕ) → q < p → IsMissing K rows v q → ⊥) → (IsMissing K rows v p → ⊥) → (q : ℕ) → q < p + 1 → IsMissing K rows v q → ⊥
  present_more v p before here q l =
      ⊎_elim {C = IsMissing K rows v q → ⊥} (λ e missing. here (subst (IsMissing K rows v) e missing)) (λ ne. before q (omega arith)) (cases_eq q p)

  -- no operand of the first nodes is missing
  abbrev pub NoneBelow : ℕ → Type 0
  NoneBelow count = (v p : ℕ) → v < count → IsMissing K rows v p → ⊥

  pub none_below_more : (count : ℕ) → NoneBelow count → IsLeast (IsMissing K rows count) None → NoneBelow (count + 1)
  none_below_more count before none v p l missing =
      ⊎_elim {C = ⊥} (λ e. none p (subst (λ z. IsMissing K rows z p) e missing)) (λ ne. before v p (omega arith) missing) (cases_eq v count)

  pub first_missing : (m : Missing) → NoneBelow m.node → IsLeast (IsMissing K rows m.node) (Some m.arg) → IsFirstMissing K rows m
  first_missing m before (here, low) = record {
    missing = here;
    none_before = λ v p missing.
        ⊎_elim {C = (m.node < v) ⊎ ((m.node ≡ v) × (m.arg ≤ p))} (λ l. absurd (before v p l missing))
        (λ l.
        ⊎_elim {C = (m.node < v) ⊎ ((m.node ≡ v) × (m.arg ≤ p))} (λ e. inr (e, low p (subst (λ z. IsMissing K rows z p) (sym e) missing))) (λ ne. inl (omega arith)) (cases_eq m.node v))
        (cases_lt v m.node);
  }

  is_there : (v p : ℕ) (o : Option ℕ) → hops_of rows v p ≡ o → (hops_of rows v p ≡ None → ⊥) → (n : ℕ) × (hops_of rows v p ≡ Some n)
  is_there v p None e not = absurd (not e)
  is_there v p (Some n) e not = (n, e)

  pub all_there : (count : ℕ) → NoneBelow count → size K ≤ count → HasAllNumbers K rows
  all_there count before all v p u d init h =
      let l = operand_within K v p (Edge u d init) h in
      is_there v p (hops_of rows v p) refl (λ none. before v p (omega arith) (u, d, init, h, none))
