-- Access to the parts of a TOML value, for readers of formats.
use Rattle.std.specs.Prelude.{ℕ, ◌^◌, ℤ, pos, negsuc, Bool, false, List, [], ◌∷◌, Option, Some, None, nat_lt, option_map, option_and_then, if◌then◌else◌}
use Rattle.std.specs.Option.{option_map_or}
use Rattle.toml.specs.Data.{Data, Items, no_items, item, Members, no_members, member, get, as_integer, as_str, as_bool, as_array, as_table}
use Rattle.cg_reading.specs.Keys.{has_other}

-- an integer that is a word
abbrev pub fitting : ℤ → Option ℕ
fitting (pos n) = if nat_lt n (2 ^ 32) then Some n else None
fitting (negsuc n) = None

-- an integer from 0 to 4,294,967,295
abbrev pub word_in : Data → Option ℕ
word_in d = option_and_then fitting (as_integer d)

-- the word at a key
abbrev pub word_at : List ℕ → Data → Option ℕ
word_at key d = option_and_then word_in (get key d)

-- the word at a key, or the default where the key is missing
abbrev pub word_or : List ℕ → ℕ → Data → Option ℕ
word_or key default d = option_map_or word_in (get key d) (Some default)

-- the boolean at a key, or the default where the key is missing
abbrev pub flag_or : List ℕ → Bool → Data → Option Bool
flag_or key default d = option_map_or as_bool (get key d) (Some default)

-- the text at a key
abbrev pub text_at : List ℕ → Data → Option (List ℕ)
text_at key d = option_and_then as_str (get key d)

-- items, as a list
abbrev pub listed : Items → List Data
listed no_items = []
listed (item d ds) = d ∷ listed ds

-- the items of an array
abbrev pub items_in : Data → Option (List Data)
items_in d = option_map listed (as_array d)

-- the items of the array at a key
abbrev pub items_at : List ℕ → Data → Option (List Data)
items_at key d = option_and_then items_in (get key d)

-- the items of the array at a key, or no items where the key is missing
abbrev pub items_or_none : List ℕ → Data → Option (List Data)
items_or_none key d = option_map_or items_in (get key d) (Some [])

-- the entries of the table at a key, in the order of their keys' bytes
abbrev pub members_at : List ℕ → Data → Option Members
members_at key d = option_and_then as_table (get key d)

-- the keys of a table's entries
abbrev pub keys_in : Members → List (List ℕ)
keys_in no_members = []
keys_in (member key d ms) = key ∷ keys_in ms

-- a table has a key that isn't one of the known ones
abbrev pub has_other_keys : List (List ℕ) → Data → Bool
has_other_keys known d = option_map_or (λ ms. has_other known (keys_in ms)) (as_table d) false
