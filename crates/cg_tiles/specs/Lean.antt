-- The description without items that would be processed in each cell to no effect: repeated references of a list, and
-- long names.
use Rattle.std.specs.Prelude.{ℕ, Bool, List, [], ◌∷◌, ◌++◌, map, fold, length, nat_lt, codes, if◌then◌else◌}
use Rattle.std.specs.List.{list_any}
use Rattle.std.specs.Str.{bytes_eq}
use Rattle.cg_model.specs.Limits.{longest_name}
use Rattle.cg_grid.specs.declared.written.Side.{Side}
use Rattle.cg_grid.specs.declared.written.Reference.{Reference}
use Rattle.cg_grid.specs.declared.written.Part.{Part}
use Rattle.cg_grid.specs.declared.written.WrittenPart.{WrittenPart}
use Rattle.cg_grid.specs.declared.written.Tile.{Tile}
use Rattle.cg_grid.specs.declared.written.WrittenArch.{WrittenArch}
use Rattle.cg_grid.specs.declared.written.Side.TheVariants.{Here, North, East, South, West, Anywhere}
use Rattle.cg_grid.specs.declared.written.Part.TheVariants as part

-- a letter for each side
abbrev pub letter : Side → ℕ
letter Here = 104
letter North = 110
letter East = 101
letter South = 115
letter West = 119
letter Anywhere = 97

-- the key of a reference: the letter of its side, followed by its name
abbrev pub key_of : Reference → List ℕ
key_of r = letter r.side ∷ r.name

-- two references have the same side and name
abbrev pub is_same : Reference → Reference → Bool
is_same r other = bytes_eq (key_of r) (key_of other)

-- references with one more, unless an equal one is there already
abbrev pub with_reference : List Reference → Reference → List Reference
with_reference references r = if list_any (is_same r) references then references else references ++ r ∷ []

-- the distinct references of a list, in the order of their first occurrences
abbrev pub references_once : List Reference → List Reference
references_once references = fold with_reference [] references

-- the name itself, or where it has too many characters, and so breaks the rule for names, a short one that breaks it
-- too
abbrev pub short_name : List ℕ → List ℕ
short_name name = if nat_lt longest_name (length name) then codes "." else name

-- a part with distinct references in its lists and a shortened name
abbrev pub lean_part : Part → Part
lean_part (part.Wire name from) = part.Wire (short_name name) (references_once from)
lean_part (part.Register name from) = part.Register (short_name name) (references_once from)
lean_part (part.Unit name ops other latency ports) = part.Unit (short_name name) ops other latency (map references_once ports)

-- the parts of tiles, made lean
abbrev pub lean_written : WrittenPart → WrittenPart
lean_written p = record { part = lean_part p.part; other_keys = p.other_keys }

abbrev pub lean_tile : Tile → Tile
lean_tile t = record { letter = t.letter; parts = map lean_written t.parts }

-- the description, made lean
unfoldable pub lean : WrittenArch → WrittenArch
lean w = record { header = w.header; tiles = map lean_tile w.tiles }
