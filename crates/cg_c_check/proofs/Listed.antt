-- The visible names as a list, and the table that finds them.
use Rattle.std.proofs.Common.{◌≡◌, ℕ, Bool, true, false, not, ◌&&◌, List, [], ◌∷◌, ◌++◌, Option, Some, None, is_some, Decides, refl, sym, ap, ◌∙◌, rules, Bor}
use Rattle.std.specs.Prelude.{map, bytes_eq, if◌then◌else◌}
use Rattle.std.specs.Map.{lookup, update}
use Rattle.std.specs.BTreeMap.{BTreeMap, get_by}
use Rattle.std.specs.Cmp.Lexicographic.{slice_cmp}
use Rattle.std.specs.Ordering.{nat_cmp}
use Rattle.std.proofs.lemmas.List.{reverse-append}
use Rattle.std.proofs.lemmas.Bool.{false≢true}
use Rattle.std.proofs.lemmas.Slice.Eq.{bytes_eq-Decides}
use Rattle.cg_c_check.specs.declared.names.Meaning.{Meaning}
use Rattle.cg_c_check.specs.declared.names.Declaration.{Declaration}
use Rattle.cg_c_check.specs.Names.{Names}
use Rattle.cg_c_check.specs.Visible.{listed, are_distinct, Finds}

pub listed_more : (xs : List Declaration) (d : Declaration) → listed (xs ++ d ∷ []) ≡ (d.name.now, d.meaning) ∷ listed xs
listed_more xs d = ap (map (λ (d : Declaration). (d.name.now, d.meaning))) (reverse-append xs (d ∷ []))

-- the test of a name for another, either way round
bytes_eq_swap : (p q : List ℕ) → bytes_eq p q ≡ bytes_eq q p
bytes_eq_swap p q = search (rules, bytes_eq-Decides)

pub distinct_more : (name : List ℕ) (meaning : Meaning) (names : Names) → lookup (bytes_eq name) names ≡ None → are_distinct names ≡ true → are_distinct ((name, meaning) ∷ names) ≡ true
distinct_more name meaning names none distinct = rw (none, distinct) refl

both : (o : Option Meaning) (b : Bool) → (not (is_some o) && b) ≡ true → (o ≡ None) × (b ≡ true)
both None b h = (refl, h)
both (Some m) b h = absurd (false≢true h)

pub distinct_less : (name : List ℕ) (meaning : Meaning) (names : Names) → are_distinct ((name, meaning) ∷ names) ≡ true → (lookup (bytes_eq name) names ≡ None) × (are_distinct names ≡ true)
distinct_less name meaning names h = both (lookup (bytes_eq name) names) (are_distinct names) h

pub finds_more : (m n : BTreeMap (Bor (List ℕ)) Meaning) (names : Names) (name : List ℕ) (meaning : Meaning) → ((q : List ℕ) → get_by (λ k. slice_cmp nat_cmp q k.now) n ≡ update bytes_eq (λ ds. get_by (λ k. slice_cmp nat_cmp ds k.now) m) name (Some meaning) q)
    → Finds m names → Finds n ((name, meaning) ∷ names)
finds_more m n names name meaning updated finds = λ q.
    updated q ∙ ap (λ b. if b then Some meaning else get_by (λ k. slice_cmp nat_cmp q k.now) m) (bytes_eq_swap name q) ∙ ap (λ o. if bytes_eq q name then Some meaning else o) (finds q)

without : (names : Names) (name : List ℕ) (meaning : Meaning) (q : List ℕ) (b : Bool) → Decides b (q ≡ name) → lookup (bytes_eq name) names ≡ None → (if b then None else (if b then Some meaning else lookup (bytes_eq q) names)) ≡ lookup (bytes_eq q) names
without names name meaning q true d none = sym (ap (λ z. lookup (bytes_eq z) names) (d.0 refl) ∙ none)
without names name meaning q false d none = refl

pub finds_less : (m n : BTreeMap (Bor (List ℕ)) Meaning) (names : Names) (name : List ℕ) (meaning : Meaning) → ((q : List ℕ) → get_by (λ k. slice_cmp nat_cmp q k.now) n ≡ update bytes_eq (λ ds. get_by (λ k. slice_cmp nat_cmp ds k.now) m) name None q)
    → Finds m ((name, meaning) ∷ names) → lookup (bytes_eq name) names ≡ None → Finds n names
finds_less m n names name meaning updated finds none = λ q.
    updated q ∙ ap (λ b. if b then None else get_by (λ k. slice_cmp nat_cmp q k.now) m) (bytes_eq_swap name q) ∙ ap (λ o. if bytes_eq q name then None else o) (finds q)
    ∙ without names name meaning q (bytes_eq q name) (bytes_eq-Decides q name) none
