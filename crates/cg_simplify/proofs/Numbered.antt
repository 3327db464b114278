-- Nodes that stay, numbered.
use Rattle.std.proofs.Common.{◌≡◌, ℕ, zero, suc, ◌+◌, ◌-◌, ◌<◌, ◌≤◌, Bool, true, false, List, [], ◌∷◌, ◌++◌, length, refl, sym, ap, ◌∙◌, subst, arith, ⊎_elim}
use Rattle.std.specs.Prelude.{slice_index}
use Rattle.std.proofs.lemmas.List.{length_push, get_or_push, get_or_append_left}
use Rattle.std.proofs.lemmas.Bool.{cases_lt, true≢false}
use Rattle.cg_simplify.specs.Live.{AreNumbered, is_marked}

module _ (n : ℕ) (marks : List Bool) (kept numbers : List ℕ) (h : AreNumbered n marks kept numbers) where
  abbrev more : List ℕ
  more = kept ++ n ∷ []

  abbrev all : List ℕ
  all = numbers ++ length kept ∷ []

  old_number : (u : ℕ) → u < n → slice_index all u ≡ slice_index numbers u
  old_number u l = get_or_append_left numbers (length kept ∷ []) 0 u (omega (arith, h.long))

  new_number : slice_index all n ≡ length kept
  new_number = get_or_push numbers (length kept) 0 n h.long

  old_kept : (k : ℕ) → k < length kept → slice_index more k ≡ slice_index kept k
  old_kept k l = get_or_append_left kept (n ∷ []) 0 k l

  new_kept : slice_index more (length kept) ≡ n
  new_kept = get_or_push kept n 0 (length kept) refl

  kept_cases : (P : ℕ → ℕ → Type 0) (k : ℕ) → k < length more → (k < length kept → P k (slice_index kept k)) → P (length kept) n → P k (slice_index more k)
  kept_cases P k l old new =
      ⊎_elim (λ b. subst (P k) (sym (old_kept k b)) (old b))
      (λ b.
      let e : k ≡ length kept = let x = length_push kept n in omega arith in
      subst (λ z. P z (slice_index more z)) (sym e) (subst (P (length kept)) (sym new_kept) new))
      (cases_lt k (length kept))

  number_cases : (P : ℕ → ℕ → Type 0) (u : ℕ) → u < n + 1 → (u < n → P u (slice_index numbers u)) → (u ≡ n → P n (length kept)) → P u (slice_index all u)
  number_cases P u l old new =
      ⊎_elim (λ b. subst (P u) (sym (old_number u b)) (old b))
      (λ b.
      let e : u ≡ n = omega arith in
      subst (λ z. P z (slice_index all z)) (sym e) (subst (P n) (sym new_number) (new e)))
      (cases_lt u n)

  rising_more : (j k : ℕ) → j < k → k < length more → slice_index more j < slice_index more k
  rising_more j k less l =
      let long = length_push kept n in
      let here : j < length kept = omega arith in
      subst (λ z. z < slice_index more k) (sym (old_kept j here))
      (kept_cases (λ k u. j < k → slice_index kept j < u) k l (λ b less'. h.rising j k less' b) (λ less'. h.below j here) less)

  pub number_kept : is_marked marks n ≡ true → AreNumbered (n + 1) marks more all
  number_kept m =
      let long = length_push kept n in
      record {
        long = length_push numbers (length kept) ∙ omega (arith, h.long);
        few = let x = h.few in omega arith;
        below = λ k l. kept_cases (λ k u. u < n + 1) k l (λ b. let x = h.below k b in omega arith) (omega arith);
        marked = λ k l. kept_cases (λ k u. is_marked marks u ≡ true) k l (λ b. h.marked k b) m;
        inside = λ u l e. number_cases (λ u k. k < length more) u l (λ b. let x = h.inside u b e in omega arith) (λ s. omega arith);
        back = λ u l e. number_cases (λ u k. slice_index more k ≡ u) u l (λ b. old_kept (slice_index numbers u) (h.inside u b e) ∙ h.back u b e) (λ s. new_kept);
        rising = rising_more;
      }

  pub number_left : is_marked marks n ≡ false → AreNumbered (n + 1) marks kept all
  number_left m =
      let no : (u : ℕ) → u ≡ n → is_marked marks u ≡ true → ⊥ = λ u s e. true≢false (sym e ∙ ap (is_marked marks) s ∙ m) in
      record {
        long = length_push numbers (length kept) ∙ omega (arith, h.long);
        few = let x = h.few in omega arith;
        below = λ k l. let x = h.below k l in omega arith;
        marked = h.marked;
        inside = λ u l e. number_cases (λ u k. k < length kept) u l (λ b. h.inside u b e) (λ s. absurd (no u s e));
        back = λ u l e. number_cases (λ u k. slice_index kept k ≡ u) u l (λ b. h.back u b e) (λ s. absurd (no u s e));
        rising = h.rising;
      }

-- ---- all n nodes are kept

module _ (n : ℕ) (marks : List Bool) (kept numbers : List ℕ) (h : AreNumbered n marks kept numbers) (all : n ≤ length kept) where
  from_below : (k : ℕ) → k < n → k ≤ slice_index kept k
  from_below zero l = omega arith
  from_below (suc k) l =
      let x = from_below k (omega arith) in
      let y : slice_index kept k < slice_index kept (suc k) = h.rising k (suc k) (omega arith) (omega arith) in
      omega arith

  from_above : (j k : ℕ) → j + k + 1 ≡ n → slice_index kept k ≤ k
  from_above zero k e = let x : slice_index kept k < n = h.below k (omega arith) in omega arith
  from_above (suc j) k e =
      let x = from_above j (suc k) (omega arith) in
      let y : slice_index kept k < slice_index kept (suc k) = h.rising k (suc k) (omega arith) (omega arith) in
      omega arith

  pub all_kept : (k : ℕ) → k < n → slice_index kept k ≡ k
  all_kept k l =
      let x = from_below k l in
      let y = from_above (n - k - 1) k (omega arith) in
      omega arith

  pub same_numbers : (u : ℕ) → u < n → slice_index numbers u ≡ u
  same_numbers u l =
      let few = h.few in
      let m : is_marked marks u ≡ true = subst (λ (z : ℕ). is_marked marks z ≡ true) (all_kept u l) (h.marked u (omega arith)) in
      let b : slice_index numbers u < n = let x = h.inside u l m in omega arith in
      sym (all_kept (slice_index numbers u) b) ∙ h.back u l m
