-- Access to the parts of a JSON value, for readers of formats.
use Rattle.std.specs.Prelude.{ℕ, ◌^◌, Bool, false, List, [], ◌∷◌, Option, Some, None, nat_lt, option_map, option_and_then, if◌then◌else◌}
use Rattle.std.specs.Option.{option_map_or}
use Rattle.serde_json.specs.Data.{Data, number, unsigned, Items, no_items, item, Members, no_members, member}
use Rattle.serde_json.specs.Find.{get, as_number, as_u64, as_str, as_array, as_object}
use Rattle.cg_reading.specs.Keys.{has_other}

-- a number that is a word
abbrev pub fitting : ℕ → Option ℕ
fitting n = if nat_lt n (2 ^ 32) then Some n else None

-- a JSON integer from 0 to 4,294,967,295
abbrev pub word_in : Data → Option ℕ
word_in d = option_and_then fitting (option_and_then as_u64 (as_number d))

-- the value that a word is printed as
abbrev pub word_data : ℕ → Data
word_data w = number (unsigned w)

-- the word at a key, or the default where the key is missing
abbrev pub word_or : List ℕ → ℕ → Data → Option ℕ
word_or key default d = option_map_or word_in (get key d) (Some default)

-- the word at a key that may be missing
abbrev pub optional_word_at : List ℕ → Data → Option (Option ℕ)
optional_word_at key d = option_map_or (λ found. option_map Some (word_in found)) (get key d) (Some None)

-- the text at a key
abbrev pub text_at : List ℕ → Data → Option (List ℕ)
text_at key d = option_and_then as_str (get key d)

-- items, as a list
abbrev pub listed : Items → List Data
listed no_items = []
listed (item d ds) = d ∷ listed ds

-- the items of an array
abbrev pub items_in : Data → Option (List Data)
items_in d = option_map listed (as_array d)

-- the items of the array at a key
abbrev pub items_at : List ℕ → Data → Option (List Data)
items_at key d = option_and_then items_in (get key d)

-- the items of the array at a key, or no items where the key is missing
abbrev pub items_or_none : List ℕ → Data → Option (List Data)
items_or_none key d = option_map_or items_in (get key d) (Some [])

-- the keys of an object's members
abbrev pub keys_in : Members → List (List ℕ)
keys_in no_members = []
keys_in (member key d ms) = key ∷ keys_in ms

-- an object has a key that isn't one of the known ones
abbrev pub has_other_keys : List (List ℕ) → Data → Bool
has_other_keys known d = option_map_or (λ ms. has_other known (keys_in ms)) (as_object d) false
