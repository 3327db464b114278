-- The numbers of items by their names.
use Rattle.std.specs.Prelude.{◌≡◌, ℕ, List, Bool, false, Option, String}
use Rattle.std.specs.Option.{option_map_or}
use Rattle.std.specs.List.{position_from}
use Rattle.std.specs.Str.{bytes_eq}
use Rattle.std.specs.declared.alloc.Global.{Global}
use Rattle.indexmap.specs.IndexMap.{IndexMap, get_by_text}

-- an item's own name, if any, equals that name
abbrev pub has_name : List ℕ → Option (List ℕ) → Bool
has_name name own = option_map_or (λ text. bytes_eq text name) own false

-- the number of the first item of that name
abbrev pub number_of : {T : Type 0} → (T → Option (List ℕ)) → List T → List ℕ → Option ℕ
number_of own_name items name = position_from (λ item. has_name name (own_name item)) 0 items

-- the number of a name in a map
abbrev pub found_in : {S : Type 0} → IndexMap (String Global) ℕ S → List ℕ → Option ℕ
found_in numbers name = get_by_text numbers name

-- the map has the number of the first item of each name
pub record IsNumbering {S T : Type 0} (numbers : IndexMap (String Global) ℕ S) (own_name : T → Option (List ℕ)) (items : List T) : Type 0 where
  pub found : (name : List ℕ) → found_in numbers name ≡ number_of own_name items name
