-- Words of the memory that arrays take.
use Rattle.std.specs.Prelude.{ℕ, ◌+◌, List, Bool, true, false, ◌&&◌, not, nat_le, nat_lt, length, slice_range}
use Rattle.std.specs.List.{list_any}
use Rattle.cg_loop_syntax.specs.declared.uses.Role.{Role}
use Rattle.cg_loop_syntax.specs.declared.uses.Role.TheVariants as roles

-- the word at this address is one of an array
abbrev pub has_word : ℕ → Role → Bool
has_word word (roles.Array at len) = nat_le at word && nat_lt word (at + len)
has_word word _ = false

-- there is at least one word, none past the end, and none is taken
abbrev pub are_free : List Bool → ℕ → ℕ → Bool
are_free taken start end = nat_lt start end && (nat_le end (length taken) && not (list_any (λ word. word) (slice_range taken start end)))

-- an array whose words are not all free
abbrev pub has_no_place : List Bool → Role → Bool
has_no_place taken (roles.Array at len) = not (are_free taken at (at + len))
has_no_place taken _ = false

-- an array of at least one word
abbrev pub is_sized : Role → Bool
is_sized (roles.Array at len) = nat_lt 0 len
is_sized _ = true
