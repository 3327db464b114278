-- The numbers of resources, and of the elements that claim a name.
use Rattle.std.specs.Prelude.{◌≡◌, ℕ, List, Bool, Option, String}
use Rattle.std.specs.List.{list_any, position_from}
use Rattle.std.specs.Str.{bytes_eq}
use Rattle.std.specs.declared.alloc.Global.{Global}
use Rattle.indexmap.specs.IndexMap.{IndexMap}
use Rattle.cg_reading.specs.Numbers as names
use Rattle.cg_parts.specs.Parts.{Element, Entry, claims_of}

-- the resource has that name
abbrev pub is_named : List ℕ → Entry → Bool
is_named name r = names.has_name name r.name

-- the number of the first resource of that name
abbrev pub number_of : List Entry → List ℕ → Option ℕ
number_of resources name = names.number_of (λ r. r.name) resources name

-- the element claims that name
abbrev pub claims : List ℕ → Element → Bool
claims name e = list_any (λ claim. bytes_eq claim name) (claims_of e)

-- the number of the first element that claims that name
abbrev pub claimer_of : List Element → List ℕ → Option ℕ
claimer_of elements name = position_from (claims name) 0 elements

-- the map has the number of the first resource of each name
abbrev pub IsNumbering : {S : Type 0} → IndexMap (String Global) ℕ S → List Entry → Type 0
IsNumbering numbers resources = names.IsNumbering numbers (λ r. r.name) resources

-- the map has the number of the first element that claims each name
pub record IsClaiming {S : Type 0} (numbers : IndexMap (String Global) ℕ S) (elements : List Element) : Type 0 where
  pub found : (name : List ℕ) → names.found_in numbers name ≡ claimer_of elements name
