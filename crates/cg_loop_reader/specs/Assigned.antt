-- The places where names are assigned.
use Rattle.std.specs.Prelude.{ℕ, ◌+◌, ◌≡◌, List, [], ◌∷◌, Bool, false, drop, nat_lt, Option, Some, None, slice_index_or}
use Rattle.std.specs.List.{list_any}
use Rattle.cg_loop_syntax.specs.Uses.{assigns}
use Rattle.cg_loop_reader.specs.declared.numbering.NumberedUse.{NumberedUse}
use Rattle.cg_loop_reader.specs.Numbered.{all_uses}

-- an index was found, and it is after another
abbrev pub is_behind : Option ℕ → ℕ → Bool
is_behind None index = false
is_behind (Some found) index = nat_lt index found

-- by the last assignment of each name: whether it is assigned after an index
abbrev pub IsLastAssigned : List (Option ℕ) → List NumberedUse → Type 0
IsLastAssigned last uses = (name index : ℕ) → is_behind (slice_index_or last name None) index ≡ list_any (assigns (name ∷ [])) (all_uses (drop (index + 1) uses))
