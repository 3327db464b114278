-- The texts of the faults of architecture files in reports.
use Rattle.std.specs.Prelude.{ℕ, List, [], ◌++◌, codes, decimal, encode_utf8}
use Rattle.cg_parts.specs.Texts.{arch_fault_text}
use Rattle.cg_grid.specs.declared.fault.TilesFault.{TilesFault}
use Rattle.cg_grid.specs.declared.fault.TilesFault.TheVariants as tiles
use Rattle.cg_grid.specs.declared.fault.TilesPlace.{TilesPlace}
use Rattle.cg_grid.specs.declared.fault.TilesPlace.TheVariants as place
use Rattle.cg_grid.specs.declared.fault.PartPlace.{PartPlace}
use Rattle.cg_grid.specs.declared.grid.Cell.{Cell}

-- a fault at a part: the letter of its tile, and its number
abbrev pub part_text : List ℕ → PartPlace → List ℕ
part_text code p = code ++ (codes " tile " ++ (encode_utf8 p.tile ++ (codes " part " ++ decimal p.part)))

-- a fault at the file or at a part
abbrev pub place_text : List ℕ → TilesPlace → List ℕ
place_text code place.File = code ++ codes " file"
place_text code (place.Part p) = part_text code p

-- a fault at a cell: its row and column
abbrev pub cell_text : List ℕ → Cell → List ℕ
cell_text code cell = code ++ (codes " row " ++ (decimal cell.row ++ (codes " column " ++ decimal cell.column)))

-- the code, the name and the place
abbrev pub tiles_fault_text : TilesFault → List ℕ
tiles_fault_text tiles.Memory = []
tiles_fault_text tiles.NotToml = codes "M1 NotToml file"
tiles_fault_text (tiles.WrongShape p) = place_text (codes "M2 WrongShape") p
tiles_fault_text (tiles.UnknownKey p) = place_text (codes "M3 UnknownKey") p
tiles_fault_text (tiles.UnknownTile cell) = cell_text (codes "M4 UnknownTile") cell
tiles_fault_text (tiles.RaggedGrid row) = codes "M5 RaggedGrid row " ++ decimal row
tiles_fault_text (tiles.UnknownOp p) = part_text (codes "M6 UnknownOp") p
tiles_fault_text (tiles.Parts f) = arch_fault_text f
