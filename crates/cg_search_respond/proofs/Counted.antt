-- Items counted by those before them, one after another.
use Rattle.std.proofs.Common.{◌≡◌, ℕ, ◌+◌, ◌<◌, ◌≤◌, Bool, true, false, List, [], ◌∷◌, ◌++◌, length, map, take, drop, get_or, sym, ap, ◌∙◌, subst, arith}
use Rattle.std.specs.Prelude.{if◌then◌else◌}
use Rattle.std.proofs.lemmas.List.{take_more, drop_more, drop_all, length-map, get_or-map}
use Rattle.cg_model.specs.Mapping.{Position}
use Rattle.cg_check.specs.declared.stop.Stop.{Stop}
use Rattle.cg_check.specs.Claims.{position_of}
use Rattle.cg_search_respond.specs.Faults.{count_after, adds_claim}
use Rattle.cg_search_respond.specs.Kept.{HasClaims}

-- the count of a bit
abbrev pub one_if : Bool → ℕ
one_if b = if b then 1 else 0

pub one_if_few : (b : Bool) → one_if b ≤ 1
one_if_few true = omega arith
one_if_few false = omega arith

module _ {X : Type 0} (test : List X → X → Bool) (xs : List X) where
  pub counted_step : (k : ℕ) (d : X) → k < length xs →
      count_after test (take k xs) (drop k xs) ≡ one_if (test (take k xs) (get_or xs k d)) + count_after test (take (k + 1) xs) (drop (k + 1) xs)
  counted_step k d l =
      ap (count_after test (take k xs)) (drop_more xs k d l)
      ∙ ap (λ z. one_if (test (take k xs) (get_or xs k d)) + count_after test z (drop (k + 1) xs)) (sym (take_more xs k d l))

  -- one more item that passes, and one that doesn't
  pub counted_one : (k n whole : ℕ) (d : X) → k < length xs → test (take k xs) (get_or xs k d) ≡ true → n + count_after test (take k xs) (drop k xs) ≡ whole →
      n + 1 + count_after test (take (k + 1) xs) (drop (k + 1) xs) ≡ whole
  counted_one k n whole d l passed so_far =
      let step = counted_step k d l in
      let one : one_if (test (take k xs) (get_or xs k d)) ≡ 1 = ap one_if passed in
      omega arith

  pub counted_none : (k n whole : ℕ) (d : X) → k < length xs → test (take k xs) (get_or xs k d) ≡ false → n + count_after test (take k xs) (drop k xs) ≡ whole →
      n + count_after test (take (k + 1) xs) (drop (k + 1) xs) ≡ whole
  counted_none k n whole d l failed so_far =
      let step = counted_step k d l in
      let none : one_if (test (take k xs) (get_or xs k d)) ≡ 0 = ap one_if failed in
      omega arith

  pub counted_all : (k n whole : ℕ) → length xs ≤ k → n + count_after test (take k xs) (drop k xs) ≡ whole → n ≡ whole
  counted_all k n whole past so_far =
      let none : count_after test (take k xs) (drop k xs) ≡ 0 = ap (count_after test (take k xs)) (drop_all k xs past) in
      omega arith

-- one more item, by whether it passes
pub counted_next : {X : Type 0} (test : List X → X → Bool) (xs : List X) (k n m whole : ℕ) (d : X) (b : Bool) → k < length xs → b ≡ test (take k xs) (get_or xs k d) → m ≡ n + one_if b → n + count_after test (take k xs) (drop k xs) ≡ whole →
    m + count_after test (take (k + 1) xs) (drop (k + 1) xs) ≡ whole
counted_next test xs k n m whole d true l same is so_far = ap (λ z. z + count_after test (take (k + 1) xs) (drop (k + 1) xs)) is ∙ counted_one test xs k n whole d l (sym same) so_far
counted_next test xs k n m whole d false l same is so_far =
    let e : m ≡ n = omega arith in
    ap (λ z. z + count_after test (take (k + 1) xs) (drop (k + 1) xs)) e ∙ counted_none test xs k n whole d l (sym same) so_far

-- one more claim
pub claims_next : (ii k n m whole : ℕ) (stops : List Stop) (new : List (List Stop)) (s d : Stop) (b : Bool) → k < length stops → s ≡ get_or stops k d →
    b ≡ adds_claim ii (take k (map position_of stops)) (position_of s) → HasClaims ii (take k (map position_of stops) ++ position_of s ∷ []) new → m ≡ n + one_if b →
    n + count_after (adds_claim ii) (take k (map position_of stops)) (drop k (map position_of stops)) ≡ whole →
    HasClaims ii (take (k + 1) (map position_of stops)) new × (m + count_after (adds_claim ii) (take (k + 1) (map position_of stops)) (drop (k + 1) (map position_of stops)) ≡ whole)
claims_next ii k n m whole stops new s d b low is adds kept next so_far =
    let ps : List Position = map position_of stops in
    let long : k < length ps = subst (λ z. k < z) (sym (length-map stops position_of)) low in
    let here : position_of s ≡ get_or ps k (position_of d) = ap position_of is ∙ sym (get_or-map position_of stops k d (position_of d) low) in (
      subst (λ z. HasClaims ii z new) (ap (λ z. take k ps ++ z ∷ []) here ∙ sym (take_more ps k (position_of d) long)) kept,
      counted_next (adds_claim ii) ps k n m whole (position_of d) b long (adds ∙ ap (adds_claim ii (take k ps)) here) next so_far,
    )
