-- The results of looking names up in a map.
use Rattle.std.specs.Prelude.{◌≡◌, ℕ, ◌||◌, bytes_eq, List, not, Option, None, find, is_some, String}
use Rattle.std.specs.declared.alloc.Global.{Global}
use Rattle.indexmap.specs.IndexMap.{IndexMap}
use Rattle.cg_reading.specs.Numbers.{found_in}
use Rattle.cg_netlist_reader.specs.Reading.{has}

-- the map contains exactly these names
pub record IsSet {S : Type 0} (numbers : IndexMap (String Global) ℕ S) (names : List (List ℕ)) : Type 0 where
  pub same : (name : List ℕ) → is_some (found_in numbers name) ≡ has names name

-- the map has one more name
pub record IsAdded {S : Type 0} (old new : IndexMap (String Global) ℕ S) (name : List ℕ) : Type 0 where
  pub fresh : found_in old name ≡ None
  pub more : (other : List ℕ) → is_some (found_in new other) ≡ (is_some (found_in old other) || bytes_eq name other)

-- the first name that the map doesn't contain
abbrev pub unknown_by : {S : Type 0} → IndexMap (String Global) ℕ S → List (List ℕ) → Option (List ℕ)
unknown_by numbers names = find (λ name. not (is_some (found_in numbers name))) names
