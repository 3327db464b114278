-- The numbers of resources and links that the tiles on a grid define, by their description.
use Rattle.std.specs.Prelude.{ℕ, ◌+◌, List, [], ◌∷◌, length, sum_by}
use Rattle.cg_grid.specs.declared.written.Reference.{Reference}
use Rattle.cg_grid.specs.declared.written.Part.{Part}
use Rattle.cg_grid.specs.declared.written.WrittenPart.{WrittenPart}
use Rattle.cg_grid.specs.declared.written.Tile.{Tile}
use Rattle.cg_grid.specs.declared.written.WrittenArch.{WrittenArch}
use Rattle.cg_grid.specs.declared.written.Part.TheVariants as part
use Rattle.cg_grid.specs.declared.grid.Cell.{Cell}
use Rattle.cg_grid.specs.declared.grid.Grid.{Grid}
use Rattle.cg_tiles.specs.Elements.{drivers_of, parts_for}

-- ---- resources

-- the number of resources that a part defines: itself, or its ports and its out
abbrev pub resources_of : Part → ℕ
resources_of (part.Wire name from) = 1
resources_of (part.Register name from) = 1
resources_of (part.Unit name ops other latency ports) = length ports + 1

-- the number of resources of the parts of a tile
abbrev pub part_resources : List WrittenPart → ℕ
part_resources parts = sum_by (λ p. resources_of p.part) parts

-- the number of resources of the cells of a row
abbrev pub row_resources : List Tile → List ℕ → ℕ
row_resources tiles row = sum_by (λ letter. part_resources (parts_for tiles letter)) row

-- the number of resources of the rows of a grid
abbrev pub grid_resources : List Tile → List (List ℕ) → ℕ
grid_resources tiles rows = sum_by (row_resources tiles) rows

-- ---- links, equal drivers of a list counted once

-- the number of links into a wire, a register or a port in a cell
abbrev pub list_links : Grid → Cell → List Reference → ℕ
list_links grid cell references = length (drivers_of grid cell references)

-- the number of links into the resources of a part
abbrev pub links_of : Grid → Cell → Part → ℕ
links_of grid cell (part.Wire name from) = list_links grid cell from
links_of grid cell (part.Register name from) = list_links grid cell from
links_of grid cell (part.Unit name ops other latency ports) = sum_by (list_links grid cell) ports

-- the number of links into the parts of a tile in a cell
abbrev pub part_links : Grid → Cell → List WrittenPart → ℕ
part_links grid cell parts = sum_by (λ p. links_of grid cell p.part) parts

-- the number of links into the cells of a row, from column c on
abbrev pub row_links : WrittenArch → Grid → ℕ → ℕ → List ℕ → ℕ
row_links w grid r c [] = 0
row_links w grid r c (letter ∷ row) = part_links grid (record { row = r; column = c }) (parts_for w.tiles letter) + row_links w grid r (c + 1) row

-- the number of links into the rows of a grid, from row r on
abbrev pub grid_links : WrittenArch → Grid → ℕ → List (List ℕ) → ℕ
grid_links w grid r [] = 0
grid_links w grid r (row ∷ rows) = row_links w grid r 0 row + grid_links w grid (r + 1) rows
