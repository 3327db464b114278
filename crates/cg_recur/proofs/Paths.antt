-- The way back from a moment: one more, and that it comes to a node again.
use Rattle.std.proofs.Common.{◌≡◌, ℕ, ◌+◌, ◌<◌, List, [], ◌∷◌, ◌++◌, length, get_or, sym, ap, ◌∙◌, subst, arith, ⊎_elim}
use Rattle.std.specs.Prelude.{slice_index, map}
use Rattle.std.proofs.lemmas.Bool.{cases_lt}
use Rattle.std.proofs.lemmas.List.{get_or_append_left, get_or_push, length_push, get_or-map}
use Rattle.std.proofs.Math.ListN.{length-map}
use Rattle.cg_recur.specs.declared.edge.Edge.{Edge}
use Rattle.cg_recur.specs.declared.moments.Step.{Step}
use Rattle.cg_recur.specs.Log.{step, Follows, IsLog}
use Rattle.cg_recur.specs.Path.{moment, IsPath}
use Rattle.cg_model.proofs.Ranges.{pigeons}

module _ (es : List Edge) (ii n : ℕ) (log : List Step) (last : List ℕ) (good : IsLog es ii n log last) where
  -- a moment that more than no edges lead to goes on from an earlier one
  pub goes_on : (i : ℕ) → i < length log → 0 < (step log i).depth → Follows es ii log i (step log i)
  goes_on i l d = ⊎_elim (λ a. absurd (let b = a.0 in omega arith)) (λ f. f) (good.steps i l).from

  pub path_more : (path : List ℕ) (k at : ℕ) → IsPath es ii n log path → length path ≡ k + 1 → slice_index path k ≡ at → at < length log → 0 < (step log at).depth → IsPath es ii n log (path ++ (step log at).before ∷ [])
  path_more path k at p len is l d =
      let f = goes_on at l d in
      let new = (step log at).before in
      let path' = path ++ new ∷ [] in
      let kept : (i : ℕ) → i < length path → slice_index path' i ≡ slice_index path i = λ i m. get_or_append_left path (new ∷ []) 0 i m in
      let end : slice_index path' (k + 1) ≡ new = get_or_push path new 0 (k + 1) len in
      let len' = length_push path new in
      let known : (i : ℕ) → i < length path' → slice_index path' i < length log =
      λ i m. ⊎_elim (λ h. let a = kept i h in let b = p.known i h in omega arith) (λ h. let q : i ≡ k + 1 = omega arith in let a = ap (slice_index path') q in let b = f.earlier in omega arith) (cases_lt i (length path))
      in
      let at_k : slice_index path' k ≡ at = kept k (omega arith) ∙ is in
      record {
        known = known;
        node = λ i m. (good.steps (slice_index path' i) (known i m)).node;
        follows = λ i m. ⊎_elim
            (λ h. let a = kept i (omega arith) in subst (λ z. Follows es ii log z (step log z)) (sym a) (p.follows i h))
            (λ h. let q : i ≡ k = omega arith in let a : slice_index path' i ≡ at = ap (slice_index path') q ∙ at_k in subst (λ z. Follows es ii log z (step log z)) (sym a) f)
            (cases_lt (i + 1) (length path));
        back = λ i m. ⊎_elim
            (λ h. let a = kept i (omega arith) in let b = kept (i + 1) h in ap (λ z. (step log z).before) a ∙ p.back i h ∙ sym b)
            (λ h. let q : i ≡ k = omega arith in let a : slice_index path' i ≡ at = ap (slice_index path') q ∙ at_k in ap (λ z. (step log z).before) a ∙ sym (ap (λ z. slice_index path' (z + 1)) q ∙ end))
            (cases_lt (i + 1) (length path));
      }

  -- one more turn of the loop
  pub trace_more : (path path' : List ℕ) (k at : ℕ) → IsPath es ii n log path → length path ≡ k + 1 → slice_index path k ≡ at → at < length log → (step log at).depth + k ≡ n → k < n → path' ≡ path ++ (step log at).before ∷ [] →
      IsPath es ii n log path' × (length path' ≡ k + 1 + 1) × (slice_index path' (k + 1) ≡ (step log at).before) × ((step log at).before < length log) × ((step log (step log at).before).depth + (k + 1) ≡ n)
  trace_more path path' k at p len is l d m e =
      let f = goes_on at l (omega arith) in
      let x = f.earlier in
      let y = f.deeper in (
        subst (IsPath es ii n log) (sym e) (path_more path k at p len is l (omega arith)),
        ap length e ∙ length_push path (step log at).before ∙ ap (λ z. z + 1) len,
        ap (λ z. slice_index z (k + 1)) e ∙ get_or_push path (step log at).before 0 (k + 1) len,
        omega arith,
        omega arith,
      )

pub comes_again : (es : List Edge) (ii n : ℕ) (log : List Step) (path : List ℕ) → IsPath es ii n log path → length path ≡ n + 1 →
    ((i j : ℕ) → i < j → j < length path → (moment log path i).node ≡ (moment log path j).node → ⊥) → ⊥
comes_again es ii n log path p len apart =
    let nodes : List ℕ = map (λ i. (step log i).node) path in
    let same : length nodes ≡ length path = length-map path (λ i. (step log i).node) in
    let at : (i : ℕ) → i < length path → slice_index nodes i ≡ (moment log path i).node = λ i l. get_or-map (λ i. (step log i).node) path i 0 0 l in
    let h = pigeons n nodes (λ i l. let a = at i (omega arith) in let b = p.node i (omega arith) in omega arith)
    (λ i j l m e. apart i j l (omega arith) (sym (at i (omega arith)) ∙ e ∙ at j (omega arith))) in
    omega arith
