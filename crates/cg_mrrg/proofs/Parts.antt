-- Lists one after another, and a list more.
use Rattle.std.proofs.Common.{◌≡◌, ℕ, suc, ◌+◌, ◌-◌, ◌≤◌, List, [], ◌∷◌, ◌++◌, length, sym, ap, ◌∙◌, subst, arith, ⊎_elim, take, drop, refl}
use Rattle.std.specs.Prelude.{slice_index, slice_range}
use Rattle.std.proofs.lemmas.List.{length-append, get_or_append_left, get_or-append_right, drop-append-le, take-append-le, length-drop, take_all}
use Rattle.std.proofs.Math.Seq.{drop-append_seam}
use Rattle.std.proofs.lemmas.Bool.{cases_eq}
use Rattle.cg_mrrg.specs.Lists.{AreParts}

pub none : {X : Type 0} (part : ℕ → List X) → AreParts part 0 [] (0 ∷ [])
none part = record {
  each = refl;
  order = λ k h. absurd (omega (arith, h));
  within = λ k h. let e : k ≡ 0 = omega (arith, h) in subst (λ z. slice_index (0 ∷ []) z ≤ 0) (sym e) (omega arith);
  last = refl;
  parts = λ k h. absurd (omega (arith, h));
}

-- a part of a list is one of a longer list
pub kept : {X : Type 0} (xs ys : List X) (a b : ℕ) → a ≤ b → b ≤ length xs → slice_range (xs ++ ys) a b ≡ slice_range xs a b
kept xs ys a b le within =
    let l = length-drop a xs in
    ap (take (b - a)) (drop-append-le a xs ys (omega arith)) ∙ take-append-le (b - a) (drop a xs) ys (omega arith)

-- what is added is a part
pub added : {X : Type 0} (xs ys : List X) → slice_range (xs ++ ys) (length xs) (length (xs ++ ys)) ≡ ys
added xs ys =
    let l = length-append xs ys in
    ap (take (length (xs ++ ys) - length xs)) (drop-append_seam xs ys) ∙ take_all (length (xs ++ ys) - length xs) ys (omega arith)

pub more : {X : Type 0} (part : ℕ → List X) (n : ℕ) (items : List X) (starts : List ℕ) → AreParts part n items starts →
    AreParts part (suc n) (items ++ part n) (starts ++ length (items ++ part n) ∷ [])
more part n items starts p =
    let long = length (items ++ part n) in
    let longer : length (items ++ part n) ≡ length items + length (part n) = length-append items (part n) in
    let e : length starts ≡ suc n = p.each in
    let before : (k : ℕ) → k ≤ n → slice_index (starts ++ long ∷ []) k ≡ slice_index starts k =
    λ k h. get_or_append_left starts (long ∷ []) 0 k (omega arith) in
    let one_more : n + 1 ≡ suc n = omega arith in
    let nothing : suc n - suc n ≡ 0 = omega arith in
    let after : slice_index (starts ++ long ∷ []) (suc n) ≡ long =
    get_or-append_right starts (long ∷ []) (suc n) (suc n) 0 e (omega arith) ∙ ap (slice_index (long ∷ [])) nothing in
    record {
      each = length-append starts (long ∷ []) ∙ omega arith;
      order = λ k h. ⊎_elim
          (λ (same : k ≡ n).
          subst (λ z. slice_index (starts ++ long ∷ []) z ≤ slice_index (starts ++ long ∷ []) (z + 1)) (sym same)
          (let a = before n (omega arith) in let b = p.last in let c : slice_index (starts ++ long ∷ []) (n + 1) ≡ long = ap (slice_index (starts ++ long ∷ [])) one_more ∙ after in omega arith))
          (λ other. let a = before k (omega arith) in let b = before (k + 1) (omega arith) in let c = p.order k (omega arith) in omega arith)
          (cases_eq k n);
      within = λ k h. ⊎_elim
          (λ (same : k ≡ suc n). let a : slice_index (starts ++ long ∷ []) k ≡ long = ap (slice_index (starts ++ long ∷ [])) same ∙ after in omega arith)
          (λ other. let a = before k (omega arith) in let b = p.within k (omega arith) in omega arith)
          (cases_eq k (suc n));
      last = after;
      parts = λ k h. ⊎_elim
          (λ (same : k ≡ n).
          subst (λ z. slice_range (items ++ part n) (slice_index (starts ++ long ∷ []) z) (slice_index (starts ++ long ∷ []) (z + 1)) ≡ part z) (sym same)
          (ap (λ z. slice_range (items ++ part n) z (slice_index (starts ++ long ∷ []) (n + 1))) (before n (omega arith) ∙ p.last)
          ∙ ap (λ z. slice_range (items ++ part n) (length items) z) (ap (slice_index (starts ++ long ∷ [])) one_more ∙ after)
          ∙ added items (part n)))
          (λ other.
          let b = p.within (k + 1) (omega arith) in
          let c = p.order k (omega arith) in
          ap (λ z. slice_range (items ++ part n) z (slice_index (starts ++ long ∷ []) (k + 1))) (before k (omega arith))
          ∙ ap (λ z. slice_range (items ++ part n) (slice_index starts k) z) (before (k + 1) (omega arith))
          ∙ kept items (part n) (slice_index starts k) (slice_index starts (k + 1)) c b
          ∙ p.parts k (omega arith))
          (cases_eq k n);
    }
