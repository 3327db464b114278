-- How a table of names holds the visible ones.
use Rattle.std.specs.Prelude.{◌≡◌, ℕ, Bool, true, ◌&&◌, not, bytes_eq, is_some, List, [], ◌∷◌, map, reverse}
use Rattle.std.specs.Map.{lookup}
use Rattle.std.specs.BTreeMap.{BTreeMap, get_by}
use Rattle.std.specs.Cmp.Lexicographic.{slice_cmp}
use Rattle.std.specs.Ordering.{nat_cmp}
use denote.Ref.{Bor}
use Rattle.cg_c_check.specs.declared.names.Meaning.{Meaning}
use Rattle.cg_c_check.specs.declared.names.Declaration.{Declaration}
use Rattle.cg_c_check.specs.Names.{Names}

-- the names that were declared in this order, the last one first
abbrev pub listed : List Declaration → Names
listed declared = map (λ d. (d.name.now, d.meaning)) (reverse declared)

-- no name is there twice
abbrev pub are_distinct : Names → Bool
are_distinct [] = true
are_distinct (n ∷ names) = not (is_some (lookup (bytes_eq n.0) names)) && are_distinct names

-- the map finds what the list has
abbrev pub Finds : BTreeMap (Bor (List ℕ)) Meaning → Names → Type 0
Finds meanings names = (name : List ℕ) → get_by (λ k. slice_cmp nat_cmp name k.now) meanings ≡ lookup (bytes_eq name) names
