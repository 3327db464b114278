-- Unknown keys.
use Rattle.std.specs.Prelude.{ℕ, Bool, not, List}
use Rattle.std.specs.List.{list_all, list_any}
use Rattle.std.specs.Str.{bytes_eq}

-- the key is not in the list
abbrev pub is_unlisted : List (List ℕ) → List ℕ → Bool
is_unlisted known key = list_all (λ other. not (bytes_eq other key)) known

-- one of the keys is not in the list
abbrev pub has_other : List (List ℕ) → List (List ℕ) → Bool
has_other known keys = list_any (is_unlisted known) keys
