-- Steps of walks over uses in order.
use Rattle.std.proofs.Common.{◌≡◌, ℕ, ◌+◌, ◌<◌, Bool, true, false, cond, List, [], ◌∷◌, ◌++◌, length, get_or, take, drop, Some, eqb, ltb, bytes_eq, refl, sym, ap, subst, ◌∙◌}
use Rattle.std.specs.List.{list_all}
use Rattle.std.proofs.lemmas.List.{take_more, map-append}
use Rattle.std.proofs.lemmas.Bool.{ltb-true, true_from_ne_false, both_ways}
use Rattle.std.proofs.lemmas.List.Folds.{list_all_at}
use Rattle.std.proofs.Math.Bool.{and-true}
use Rattle.std.proofs.Common.{add-one, drop-cons}
use Rattle.cg_loop_syntax.specs.declared.uses.Role.TheVariants as roles
use Rattle.cg_loop_syntax.specs.Uses.{Use, first_where}
use Rattle.cg_loop_reader.specs.declared.numbering.NumberedUse.{NumberedUse}
use Rattle.cg_loop_reader.specs.Below.{AreBelow}
use Rattle.cg_loop_reader.specs.Numbered.{numbered_use, all_uses}

-- what stands where there is no use
abbrev pub no_use : NumberedUse
no_use = record { role = roles.Array 0 0; name = 0; place = 0 }

-- two tests that imply each other are the same
pub same_test : (b c : Bool) → (b ≡ true → c ≡ true) → (c ≡ true → b ≡ true) → b ≡ c
same_test true c f g = sym (f refl)
same_test false true f g = g refl
same_test false false f g = refl

-- what each element passes, the one at i does
pub all_at : {X : Type 0} (p : X → Bool) (xs : List X) (i : ℕ) (d : X) → i < length xs → list_all p xs ≡ true → p (get_or xs i d) ≡ true
all_at p xs i d lt all = true_from_ne_false (p (get_or xs i d)) (λ no. both_ways (list_all p xs) (list_all_at p xs i d lt no) all)

-- the number of a name is below their count
pub name_below : (names : ℕ) (us xs : List NumberedUse) (i : ℕ) (d : NumberedUse) → AreBelow names us → xs ≡ us → i < length us → (get_or xs i d).name < names
name_below names us xs i d below same lt =
    let bounded = λ (ys : List NumberedUse). (get_or ys i d).name < names in
    subst bounded (sym same) (ltb-true _ _ (all_at (λ u. ltb u.name names) us i d lt below))

-- one use more
pub uses_more : (us : List NumberedUse) (i : ℕ) (d : NumberedUse) → i < length us
    → all_uses (take (i + 1) us) ≡ all_uses (take i us) ++ numbered_use (get_or us i d) ∷ []
uses_more us i d lt = ap all_uses (take_more us i d lt) ∙ map-append numbered_use (take i us) (get_or us i d ∷ [])

-- one use less
pub uses_less : (us : List NumberedUse) (i : ℕ) (d : NumberedUse) → i < length us
    → all_uses (drop i us) ≡ numbered_use (get_or us i d) ∷ all_uses (drop (i + 1) us)
uses_less us i d lt = ap all_uses (drop-cons us i d lt) ∙ ap (λ k. numbered_use (get_or us i d) ∷ all_uses (drop k us)) (sym (add-one i))

-- a use at which a test fails is passed
pub passed : (test : List Use → Use → List Use → Bool) (us xs : List NumberedUse) (i : ℕ) (d : NumberedUse) → xs ≡ us → i < length us
    → first_where test [] (all_uses us) ≡ first_where test (all_uses (take i us)) (all_uses (drop i us))
    → test (all_uses (take i us)) (numbered_use (get_or xs i d)) (all_uses (drop (i + 1) us)) ≡ false
    → first_where test [] (all_uses us) ≡ first_where test (all_uses (take (i + 1) us)) (all_uses (drop (i + 1) us))
passed test us xs i d same lt before fails =
    let fails' = rw same at fails in
    before
    ∙ ap (first_where test (all_uses (take i us))) (uses_less us i d lt)
    ∙ ap (λ b. cond b (Some (numbered_use (get_or us i d)).place) (first_where test (all_uses (take i us) ++ numbered_use (get_or us i d) ∷ []) (all_uses (drop (i + 1) us)))) fails'
    ∙ ap (λ us'. first_where test us' (all_uses (drop (i + 1) us))) (sym (uses_more us i d lt))

-- a use at which a test passes is found
pub found : (test : List Use → Use → List Use → Bool) (us xs : List NumberedUse) (i : ℕ) (d : NumberedUse) → xs ≡ us → i < length us
    → first_where test [] (all_uses us) ≡ first_where test (all_uses (take i us)) (all_uses (drop i us))
    → test (all_uses (take i us)) (numbered_use (get_or xs i d)) (all_uses (drop (i + 1) us)) ≡ true
    → Some (get_or xs i d).place ≡ first_where test [] (all_uses us)
found test us xs i d same lt before passes =
    let passes' = rw same at passes in
    ap (λ ys. Some (get_or ys i d).place) same
    ∙ sym (before
    ∙ ap (first_where test (all_uses (take i us))) (uses_less us i d lt)
    ∙ ap (λ b. cond b (Some (numbered_use (get_or us i d)).place) (first_where test (all_uses (take i us) ++ numbered_use (get_or us i d) ∷ []) (all_uses (drop (i + 1) us)))) passes')

-- two numbers as names are the same where the numbers are
pub same_number : (a b : ℕ) → bytes_eq (a ∷ []) (b ∷ []) ≡ eqb a b
same_number a b = and-true (eqb a b)
