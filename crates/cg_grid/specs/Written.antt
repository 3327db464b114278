-- The description of an architecture in a TOML table.
use Rattle.std.specs.Prelude.{ℕ, ◌&&◌, ◌||◌, Bool, true, false, List, [], ◌∷◌, Option, Some, None, Result, Ok, Err, codes, eqb, slice_index, unwrap_or, option_and_then, if◌then◌else◌}
use Rattle.std.specs.Option.{option_map_or, is_some}
use Rattle.std.specs.List.{list_all}
use Rattle.std.specs.Str.{bytes_eq}
use Rattle.toml.specs.Data.{Data, Members, no_members, member, as_str, as_array}
use Rattle.cg_model.specs.Names.{between}
use Rattle.cg_reading.specs.Items.{all_of, all_or_first}
use Rattle.cg_toml.specs.Members.{text_at, word_at, word_or, flag_or, items_in, items_at, items_or_none, members_at, has_other_keys}
use Rattle.cg_grid.specs.declared.fault.PartPlace.{PartPlace}
use Rattle.cg_grid.specs.declared.fault.TilesPlace.{TilesPlace}
use Rattle.cg_grid.specs.declared.fault.TilesPlace.TheVariants as place
use Rattle.cg_grid.specs.declared.written.WrittenPart.{WrittenPart}
use Rattle.cg_grid.specs.declared.written.Tile.{Tile}
use Rattle.cg_grid.specs.declared.written.Header.{Header}
use Rattle.cg_grid.specs.declared.written.WrittenArch.{WrittenArch}
use Rattle.cg_grid.specs.Parts.{part_in}

-- ---- tiles: each key is one letter, each value an array of parts

-- an ASCII letter
abbrev pub is_letter : ℕ → Bool
is_letter byte = between 65 90 byte || between 97 122 byte

-- a key of `tiles` is one letter
abbrev pub is_tile_key : List ℕ → Bool
is_tile_key (byte ∷ []) = is_letter byte
is_tile_key _ = false

-- each key is one letter, and has an array
abbrev pub are_tiles : Members → Bool
are_tiles no_members = true
are_tiles (member key d ms) = (is_tile_key key && is_some (as_array d)) && are_tiles ms

-- the items of an array, none where the value is not an array
abbrev pub items_of : Data → List Data
items_of d = unwrap_or (items_in d) []

-- the tile of a letter, or its first malformed part
abbrev pub of_letter : ℕ → Result (List WrittenPart) ℕ → Result Tile PartPlace
of_letter letter (Ok parts) = Ok (record { letter = letter; parts = parts })
of_letter letter (Err k) = Err (record { tile = letter; part = k })

-- the tile at a key, or its first malformed part
abbrev pub tile_in : List ℕ → Data → Result Tile PartPlace
tile_in key d = of_letter (slice_index key 0) (all_or_first part_in 0 (items_of d))

-- the tiles by their letters, or the first malformed part
abbrev pub and_tiles : Result Tile PartPlace → Result (List Tile) PartPlace → Result (List Tile) PartPlace
and_tiles (Err p) rest = Err p
and_tiles (Ok tile) (Ok tiles) = Ok (tile ∷ tiles)
and_tiles (Ok tile) (Err p) = Err p

-- the tiles at all keys, in the order of their letters
abbrev pub tiles_in : Members → Result (List Tile) PartPlace
tiles_in no_members = Ok []
tiles_in (member key d ms) = and_tiles (tile_in key d) (tiles_in ms)

-- ---- the file: the texts `format`, which is `cga1`, and `name`, the word `contexts`, the texts `grid` and the table
-- `tiles`; and the optional `memory`, `torus` and `hub`

-- a cell of the grid is empty, `.`, or has a tile's letter
abbrev pub is_cell : ℕ → Bool
is_cell byte = eqb byte 46 || is_letter byte

-- a row of the grid: a text of cells
abbrev pub row_in : Data → Option (List ℕ)
row_in d = option_and_then (λ text. if list_all is_cell text then Some text else None) (as_str d)

-- the rows of the grid
abbrev pub grid_in : Data → Option (List (List ℕ))
grid_in d = option_and_then (all_of row_in) (items_at (codes "grid") d)

-- the texts of the hub
abbrev pub hub_in : Data → Option (List (List ℕ))
hub_in d = option_and_then (all_of as_str) (items_or_none (codes "hub") d)

-- the format is `cga1`
abbrev pub has_format : Data → Bool
has_format d = option_map_or (λ text. bytes_eq text (codes "cga1")) (text_at (codes "format") d) false

-- everything except the tiles, where nothing needed is missing
abbrev pub header_from : Option (List ℕ) → Option ℕ → Option ℕ → Option Bool → Option (List (List ℕ)) → Option (List (List ℕ)) → Bool → Option Header
header_from (Some name) (Some contexts) (Some memory) (Some torus) (Some hub) (Some grid) other =
    Some (record { name = name; contexts = contexts; memory = memory; torus = torus; hub = hub; grid = grid; other_keys = other })
header_from _ _ _ _ _ _ other = None

-- the description in the table except its tiles
abbrev pub header_in : Data → Option Header
header_in d = header_from
    (text_at (codes "name") d)
    (word_at (codes "contexts") d)
    (word_or (codes "memory") 0 d)
    (flag_or (codes "torus") false d)
    (hub_in d)
    (grid_in d)
    (has_other_keys (codes "format" ∷ codes "name" ∷ codes "contexts" ∷ codes "memory" ∷ codes "torus" ∷ codes "hub" ∷ codes "grid" ∷ codes "tiles" ∷ []) d)

-- the entries of `tiles`
abbrev pub tiles_at : Data → Option Members
tiles_at d = option_and_then (λ ms. if are_tiles ms then Some ms else None) (members_at (codes "tiles") d)

-- with the tiles, or the place of the first malformed part
abbrev pub with_tiles : Header → Result (List Tile) PartPlace → Result WrittenArch TilesPlace
with_tiles header (Ok tiles) = Ok (record { header = header; tiles = tiles })
with_tiles header (Err p) = Err (place.Part p)

-- where the format, the header or the tiles are wrong, the place is the file
abbrev pub written_from : Bool → Option Header → Option Members → Result WrittenArch TilesPlace
written_from true (Some header) (Some ms) = with_tiles header (tiles_in ms)
written_from _ _ _ = Err place.File

-- M2 WrongShape: the description in the table, or the first place where a needed key is missing or a value has another
-- kind, range or form: the file, and then the parts of tiles, in the order of their letters
unfoldable pub written_of : Data → Result WrittenArch TilesPlace
written_of d = written_from (has_format d) (header_in d) (tiles_at d)
