-- Names of nodes, units, resources and architectures, as the bytes of their text.
use Rattle.std.specs.Prelude.{◌≡◌, ℕ, ◌<◌, ◌≤◌, nat_lt, nat_le, eqb, Bool, true, ◌&&◌, ◌||◌, List, length, slice_index}
use Rattle.std.specs.List.{list_all}

-- the byte is one of low, .., high
abbrev pub between : ℕ → ℕ → ℕ → Bool
between low high byte = nat_le low byte && nat_le byte high

-- an ASCII letter or `_`
abbrev pub begins_name : ℕ → Bool
begins_name byte = between 65 90 byte || (between 97 122 byte || eqb byte 95)

-- an ASCII letter, `_` or a digit
abbrev pub within_name : ℕ → Bool
within_name byte = begins_name byte || between 48 57 byte

-- an identifier: a letter or `_`, then letters, digits or `_`
abbrev pub is_identifier : List ℕ → Bool
is_identifier name = nat_lt 0 (length name) && (begins_name (slice_index name 0) && list_all within_name name)

-- an identifier of at most `most` characters
abbrev pub is_name : ℕ → List ℕ → Bool
is_name most name = is_identifier name && nat_le (length name) most

-- a name begins with a letter or `_`, continues with letters, digits or `_`, and has at most `most` characters
pub record IsName (most : ℕ) (name : List ℕ) : Type 0 where
  pub some : 0 < length name
  pub short : length name ≤ most
  pub first : begins_name (slice_index name 0) ≡ true
  pub rest : (k : ℕ) → k < length name → within_name (slice_index name k) ≡ true
