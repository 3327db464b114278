-- Names of a list, each where it stands first.
use Rattle.std.proofs.Common.{◌≡◌, ℕ, ◌≤◌, List, [], ◌∷◌, ◌++◌, length, fold, filter_map, Option, Bool, true, false, cond, bytes_eq, arith, refl, ap, sym, ◌∙◌, length-append}
use Rattle.std.specs.List.{list_any}
use Rattle.std.proofs.lemmas.List.Elements.{filter_map-append}
use Rattle.std.proofs.lemmas.List.Sums.{fold-append}
use Rattle.cg_parts.specs.Parts.{with_name, distinct}

-- adding a name keeps those that are there
one_more : (b : Bool) (names : List (List ℕ)) (name : List ℕ) → length names ≤ length (cond b names (names ++ name ∷ []))
one_more true names name = omega arith
one_more false names name = omega (arith, length-append names (name ∷ []))

pub fold_longer : (names more : List (List ℕ)) → length names ≤ length (fold with_name names more)
fold_longer names [] = omega arith
fold_longer names (x ∷ xs) =
    omega (arith, one_more (list_any (bytes_eq x) names) names x, fold_longer (with_name names x) xs)

-- what one more item gives is added first
pub fold_next : {X : Type 0} (f : X → Option (List ℕ)) (names : List (List ℕ)) (x : X) (xs : List X) → fold with_name (fold with_name names (filter_map f (x ∷ []))) (filter_map f xs) ≡ fold with_name names (filter_map f (x ∷ xs))
fold_next f names x xs =
    sym (ap (fold with_name names) (filter_map-append f (x ∷ []) xs) ∙ fold-append with_name names (filter_map f (x ∷ [])) (filter_map f xs))

-- names of which each stands once stay as they are
added : (b : Bool) (names : List (List ℕ)) (name : List ℕ) → list_any (bytes_eq name) names ≡ b → fold with_name [] names ≡ names
    → fold with_name [] (cond b names (names ++ name ∷ [])) ≡ cond b names (names ++ name ∷ [])
added true names name is same = same
added false names name is same =
    fold-append with_name [] names (name ∷ [])
    ∙ ap (λ front. with_name front name) same
    ∙ ap (λ b. cond b names (names ++ name ∷ [])) is

fold_same : (names more : List (List ℕ)) → fold with_name [] names ≡ names → fold with_name [] (fold with_name names more) ≡ fold with_name names more
fold_same names [] same = same
fold_same names (x ∷ xs) same = fold_same (with_name names x) xs (added (list_any (bytes_eq x) names) names x refl same)

pub distinct_distinct : (names : List (List ℕ)) → distinct (distinct names) ≡ distinct names
unfolding distinct
distinct_distinct names = fold_same [] names refl
