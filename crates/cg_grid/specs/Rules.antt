-- Where each of the faults M3 to M6 applies first, and whether a grid is too large (A1).
use Rattle.std.specs.Prelude.{ℕ, ◌+◌, ◌&&◌, ◌||◌, eqb, Bool, false, not, List, [], ◌∷◌, length, Option, Some, None, nat_lt, option_map, if◌then◌else◌}
use Rattle.std.specs.Option.{option_or, is_none}
use Rattle.cg_model.specs.Limits.{most_side}
use Rattle.cg_model.specs.First.{first_from, first_such}
use Rattle.cg_parts.specs.declared.fault.ArchFault.TheVariants as arch
use Rattle.cg_parts.specs.declared.fault.TooLargePlace.TheVariants as large
use Rattle.cg_grid.specs.declared.fault.PartPlace.{PartPlace}
use Rattle.cg_grid.specs.declared.fault.TilesPlace.{TilesPlace}
use Rattle.cg_grid.specs.declared.written.Part.{Part}
use Rattle.cg_grid.specs.declared.written.WrittenPart.{WrittenPart}
use Rattle.cg_grid.specs.declared.written.Tile.{Tile}
use Rattle.cg_grid.specs.declared.written.WrittenArch.{WrittenArch}
use Rattle.cg_grid.specs.declared.fault.TilesPlace.TheVariants as place
use Rattle.cg_grid.specs.declared.written.Part.TheVariants as part
use Rattle.cg_grid.specs.declared.rules.PartRule.{PartRule}
use Rattle.cg_grid.specs.declared.rules.PartRule.TheVariants.{UnknownKey, UnknownOp}
use Rattle.cg_grid.specs.declared.grid.Cell.{Cell}
use Rattle.cg_grid.specs.declared.fault.TilesFault.{TilesFault}
use Rattle.cg_grid.specs.declared.fault.TilesFault.TheVariants as fault

-- the first part that passes a test, in the order of the tiles
abbrev pub first_part : (WrittenPart → Bool) → List Tile → Option PartPlace
first_part test [] = None
first_part test (t ∷ ts) = option_or (option_map (λ k. record { tile = t.letter; part = k }) (first_from (λ k p. test p) 0 t.parts)) (first_part test ts)

-- M6 UnknownOp: an item of a unit's `ops` isn't the name of an operation
abbrev pub names_no_op : Part → Bool
names_no_op (part.Wire name from) = false
names_no_op (part.Register name from) = false
names_no_op (part.Unit name ops other latency ports) = other

-- M3, or M6, applies to a part
abbrev pub applies : PartRule → WrittenPart → Bool
applies UnknownKey p = p.other_keys
applies UnknownOp p = names_no_op p.part

-- M3 UnknownKey: a key that the format doesn't have for the file, or for a part of that shape
abbrev pub unknown_key : WrittenArch → Option TilesPlace
unknown_key w = if w.header.other_keys then Some place.File else option_map place.Part (first_part (applies UnknownKey) w.tiles)

-- the tile of a letter
abbrev pub tile_of : List Tile → ℕ → Option Tile
tile_of tiles letter = first_such (λ t. eqb t.letter letter) tiles

-- M4 UnknownTile: a letter of the grid without a tile
abbrev pub is_unknown : List Tile → ℕ → Bool
is_unknown tiles cell = not (eqb cell 46) && is_none (tile_of tiles cell)

-- the first cell whose letter has no tile, in the rows from number r on
abbrev pub unknown_tile : List Tile → ℕ → List (List ℕ) → Option Cell
unknown_tile tiles r [] = None
unknown_tile tiles r (row ∷ rows) =
    option_or (option_map (λ c. record { row = r; column = c }) (first_from (λ c cell. is_unknown tiles cell) 0 row)) (unknown_tile tiles (r + 1) rows)

-- the number of columns of a grid: the length of its first row
abbrev pub columns : List (List ℕ) → ℕ
columns [] = 0
columns (row ∷ rows) = length row

-- M5 RaggedGrid: no row, an empty row, or a row that differs in length from the first
abbrev pub is_ragged : ℕ → List ℕ → Bool
is_ragged most row = eqb (length row) 0 || not (eqb (length row) most)

-- the first ragged row; row 0 where there is no row
abbrev pub ragged_row : List (List ℕ) → Option ℕ
ragged_row [] = Some 0
ragged_row (row ∷ rows) = first_from (λ r other. is_ragged (length row) other) 0 (row ∷ rows)

-- A1 TooLarge, for grids: more than 32 rows or columns
abbrev pub has_large_grid : List (List ℕ) → Bool
has_large_grid grid = nat_lt most_side (length grid) || nat_lt most_side (columns grid)

-- the fault, where it applies
abbrev pub large_grid : List (List ℕ) → Option TilesFault
large_grid grid = if has_large_grid grid then Some (fault.Parts (arch.TooLarge large.Grid)) else None

-- the lowest of M3 to M6 that applies, at its first place, or else A1 for the grid
unfoldable pub first_fault : WrittenArch → Option TilesFault
first_fault w = option_or
    (option_map fault.UnknownKey (unknown_key w))
    (option_or (option_map fault.UnknownTile (unknown_tile w.tiles 0 w.header.grid))
    (option_or (option_map fault.RaggedGrid (ragged_row w.header.grid))
    (option_or (option_map fault.UnknownOp (first_part (applies UnknownOp) w.tiles))
    (large_grid w.header.grid))))
