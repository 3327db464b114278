-- A log that is too deep has a closed chain in its shown form, by definitions alone.
use Rattle.std.proofs.Common.{◌≡◌, ℕ, zero, suc, ◌+◌, ◌-◌, ◌<◌, ◌≤◌, List, [], ◌∷◌, ◌++◌, length, refl, sym, ap, ◌∙◌, subst, arith, inl, inr, ⊎_elim}
use Rattle.std.specs.Prelude.{◌⊎◌, slice_index}
use Rattle.std.proofs.lemmas.Bool.{cases_eq, cases_lt}
use Rattle.cg_recur.specs.declared.edge.Edge.{Edge}
use Rattle.cg_recur.specs.declared.moments.Step.{Step}
use Rattle.cg_recur.specs.Log.{step, IsLog, IsDeep}
use Rattle.cg_recur.specs.Path.{moment, IsPath, IsRepeat, IsCut, edges_between}
use Rattle.cg_recur.specs.Numbered.{IsShownCycle}
use Rattle.cg_recur.proofs.Paths.{trace_more, comes_again}
use Rattle.cg_recur.proofs.Cycles.{shown_cycle}

module _ (es : List Edge) (ii n : ℕ) (log : List Step) (last : List ℕ) (good : IsLog es ii n log last) (deep : IsDeep n log) where
  -- the way back, so far
  abbrev Traced : ℕ → Type 0
  Traced k = (path : List ℕ) × (at : ℕ) × IsPath es ii n log path × (length path ≡ k + 1) × (slice_index path k ≡ at) × (at < length log) × ((step log at).depth + k ≡ n)

  first : Traced 0
  first =
      let (i, len, d) = deep in
      let only : (k : ℕ) → k < length (i ∷ []) → slice_index (i ∷ []) k ≡ i = λ k l. let q : k ≡ 0 = omega arith in ap (slice_index (i ∷ [])) q in
      let p : IsPath es ii n log (i ∷ []) =
      record {
        known = λ k l. let a = only k l in omega arith;
        node = λ k l. let a = only k l in subst (λ z. (step log z).node < n) (sym a) (good.steps i (omega arith)).node;
        follows = λ k l. absurd (omega arith);
        back = λ k l. absurd (omega arith);
      }
      in
      (i ∷ [], i, p, omega arith, refl, omega arith, omega arith)

  trace : (k : ℕ) → k ≤ n → Traced k
  trace zero l = first
  trace (suc k) l =
      let (path, at, p, len, is, m, d) = trace k (omega arith) in
      let (a, b, c, x, y) = trace_more es ii n log last good path (path ++ (step log at).before ∷ []) k at p len is m d (omega arith) refl in
      let e : k + 1 ≡ suc k = omega arith in
      subst Traced e (path ++ (step log at).before ∷ [], (step log at).before, a, b, c, x, y)

  module _ (path : List ℕ) where
    abbrev node_at : ℕ → ℕ
    node_at k = (moment log path k).node

    -- a node met before
    meets : (b a : ℕ) → ((i : ℕ) × (i < a) × (node_at i ≡ node_at b)) ⊎ ((i : ℕ) → i < a → node_at i ≡ node_at b → ⊥)
    meets b zero = inr (λ i l. absurd (omega arith))
    meets b (suc a) =
        ⊎_elim
        (λ (i, l, e). inl (i, omega arith, e))
        (λ none.
        ⊎_elim (λ e. inl (a, omega arith, e))
        (λ ne. inr (λ i l e. ⊎_elim (λ (h : i < a). none i h e) (λ h. let q : i ≡ a = omega arith in ne (sym (ap node_at q) ∙ e)) (cases_lt i a)))
        (cases_eq (node_at a) (node_at b)))
        (meets b a)

    abbrev Apart : ℕ → Type 0
    Apart b = (i j : ℕ) → i < j → j < b → node_at i ≡ node_at j → ⊥

    repeat : (b : ℕ) → b ≤ length path → ((x : ℕ) × (y : ℕ) × IsRepeat log path x y) ⊎ Apart b
    repeat zero l = inr (λ i j m k. absurd (omega arith))
    repeat (suc b) l =
        ⊎_elim (λ f. inl f)
        (λ apart.
        ⊎_elim
        (λ (a, m, e). inl (a, b, record { order = m; within = omega arith; same = e; apart = apart }))
        (λ none. inr (λ i j m k e. ⊎_elim (λ (h : j < b). apart i j m h e) (λ h. let q : j ≡ b = omega arith in none i (omega arith) (e ∙ ap node_at q)) (cases_lt j b)))
        (meets b b))
        (repeat b (omega arith))

    -- the least node among some
    least : (a d : ℕ) → (c : ℕ) × (a < c) × (c ≤ a + suc d) × ((k : ℕ) → a < k → k ≤ a + suc d → node_at c ≤ node_at k)
    least a zero = (a + 1, omega arith, omega arith, λ k l m. let q : a + 1 ≡ k = omega arith in let e = ap node_at q in omega arith)
    least a (suc d) =
        let (c, l, m, h) = least a d in
        let top = a + suc (suc d) in
        ⊎_elim
        (λ (x : node_at top < node_at c). (top, omega arith, omega arith, λ k y z. ⊎_elim (λ (w : k < top). let g = h k y (omega arith) in omega arith) (λ w. let q : top ≡ k = omega arith in let e = ap node_at q in omega arith) (cases_lt k top)))
        (λ x. (c, l, omega arith, λ k y z. ⊎_elim (λ (w : k < top). h k y (omega arith)) (λ w. let q : top ≡ k = omega arith in let e = ap node_at q in omega arith) (cases_lt k top)))
        (cases_lt (node_at top) (node_at c))

    cut : (a b : ℕ) → a < b → (c : ℕ) × IsCut log path a b c
    cut a b l =
        let (c, x, y, h) = least a (b - a - 1) in
        (c, record { above = x; within = omega arith; least = λ k m o. h k m (omega arith) })

  pub closed_chain : (xs : List ℕ) × IsShownCycle es ii xs
  closed_chain =
      let (path, at, p, len, is, m, d) = trace n (omega arith) in
      let (a, b, r) = ⊎_elim (λ (f : (x : ℕ) × (y : ℕ) × IsRepeat log path x y). f) (λ apart. absurd (comes_again es ii n log path p len apart)) (repeat path (length path) (omega arith)) in
      let (c, q) = cut path a b r.order in
      (edges_between log path a (c - a) ++ edges_between log path c (b - c), shown_cycle es ii n log path p last good a b c r q)
