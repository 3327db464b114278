-- Links into targets that stand one behind the other.
use Rattle.std.proofs.Common.{◌≡◌, ℕ, ◌+◌, ◌<◌, List, [], ◌∷◌, ◌++◌, length, get_or, drop, flat_map, Option, Some, None, refl, ap, ◌∙◌}
use Rattle.std.specs.Option.{option_or, option_map}
use Rattle.cg_model.specs.Array.{Arch}
use Rattle.cg_model.specs.declared.array.Unit.{Unit}
use Rattle.cg_parts.proofs.Lists.{rest_at}
use Rattle.cg_validate.specs.Hub.{first_missing, first_not_driving, missing}

or_assoc : {X : Type 0} (o p q : Option X) → option_or o (option_or p q) ≡ option_or (option_or o p) q
or_assoc (Some x) p q = refl
or_assoc None p q = refl

pub missing-append : (A : Arch) (sources xs ys : List ℕ) → first_missing A sources (xs ++ ys) ≡ option_or (first_missing A sources xs) (first_missing A sources ys)
missing-append A sources [] ys = refl
missing-append A sources (x ∷ xs) ys =
    let here = option_map (λ q. missing A q x) (first_not_driving A sources x) in
    ap (option_or here) (missing-append A sources xs ys) ∙ or_assoc here (first_missing A sources xs) (first_missing A sources ys)

pub missing-at : (A : Arch) (sources : List ℕ) (us : List Unit) (k : ℕ) (d : Unit) → k < length us
    → first_missing A sources (flat_map (λ u. u.ports) (drop k us)) ≡ option_or (first_missing A sources (get_or us k d).ports) (first_missing A sources (flat_map (λ u. u.ports) (drop (k + 1) us)))
missing-at A sources us k d h =
    ap (λ ws. first_missing A sources (flat_map (λ u. u.ports) ws)) (rest_at us k d h) ∙ missing-append A sources (get_or us k d).ports (flat_map (λ u. u.ports) (drop (k + 1) us))
