-- The parts that tiles on a grid define: their elements by row, column and order in the tile.
use Rattle.std.specs.Prelude.{ℕ, ◌+◌, List, [], ◌∷◌, ◌++◌, length, map, filter_map, Option, codes, decimal, option_map}
use Rattle.std.specs.Option.{option_map_or}
use Rattle.cg_parts.specs.Parts.{distinct}
use Rattle.cg_parts.specs.declared.parts.Element.{Element}
use Rattle.cg_parts.specs.declared.parts.Parts.{Parts}
use Rattle.cg_parts.specs.declared.parts.Element.TheVariants as element
use Rattle.cg_grid.specs.declared.written.Side.{Side}
use Rattle.cg_grid.specs.declared.written.Reference.{Reference}
use Rattle.cg_grid.specs.declared.written.Part.{Part}
use Rattle.cg_grid.specs.declared.written.WrittenPart.{WrittenPart}
use Rattle.cg_grid.specs.declared.written.Tile.{Tile}
use Rattle.cg_grid.specs.declared.written.WrittenArch.{WrittenArch}
use Rattle.cg_grid.specs.declared.written.Side.TheVariants.{Anywhere}
use Rattle.cg_grid.specs.declared.written.Part.TheVariants as part
use Rattle.cg_grid.specs.Rules.{tile_of, columns}
use Rattle.cg_grid.specs.declared.grid.Cell.{Cell}
use Rattle.cg_grid.specs.declared.grid.Grid.{Grid}
use Rattle.cg_grid.specs.Grid.{neighbour}

-- the flat name of the resource called x in a cell: `r`, its row, `c`, its column, `_` and x
abbrev pub flat_name : Cell → List ℕ → List ℕ
flat_name cell x = codes "r" ++ (decimal cell.row ++ (codes "c" ++ (decimal cell.column ++ (codes "_" ++ x))))

-- the flat name of the resource called x in a cell; x is itself a flat name where the reference is by flat name
abbrev pub name_in : Cell → Side → List ℕ → List ℕ
name_in cell Anywhere x = x
name_in cell side x = flat_name cell x

-- the flat name of the resource that a reference in a cell names, None off the grid
abbrev pub name_on : Grid → Cell → Side → List ℕ → Option (List ℕ)
name_on grid cell side x = option_map (λ other. name_in other side x) (neighbour grid cell side)

abbrev pub driver_of : Grid → Cell → Reference → Option (List ℕ)
driver_of grid cell reference = name_on grid cell reference.side reference.name

-- the drivers that references in a cell name, equal ones once
abbrev pub drivers_of : Grid → Cell → List Reference → List (List ℕ)
drivers_of grid cell references = distinct (filter_map (driver_of grid cell) references)

-- the element of a part of a tile in a cell
abbrev pub element_of : Grid → Cell → Part → Element
element_of grid cell (part.Wire name from) = element.Wire (flat_name cell name) (drivers_of grid cell from)
element_of grid cell (part.Register name from) = element.Register (flat_name cell name) (drivers_of grid cell from)
element_of grid cell (part.Unit name ops other latency ports) = element.Unit (flat_name cell name) ops latency (map (drivers_of grid cell) ports)

-- the parts of a tile in a cell; an empty cell has none
abbrev pub parts_for : List Tile → ℕ → List WrittenPart
parts_for tiles letter = option_map_or (λ t. t.parts) (tile_of tiles letter) []

abbrev pub cell_elements : WrittenArch → Grid → Cell → ℕ → List Element
cell_elements w grid cell letter = map (λ p. element_of grid cell p.part) (parts_for w.tiles letter)

-- the elements of a row from column c on
abbrev pub row_elements : WrittenArch → Grid → ℕ → ℕ → List ℕ → List Element
row_elements w grid r c [] = []
row_elements w grid r c (letter ∷ row) = cell_elements w grid (record { row = r; column = c }) letter ++ row_elements w grid r (c + 1) row

-- the elements of the rows from row r on
abbrev pub grid_elements : WrittenArch → Grid → ℕ → List (List ℕ) → List Element
grid_elements w grid r [] = []
grid_elements w grid r (row ∷ rows) = row_elements w grid r 0 row ++ grid_elements w grid (r + 1) rows

-- the size of the grid
abbrev pub grid_of : WrittenArch → Grid
grid_of w = record { rows = length w.header.grid; columns = columns w.header.grid; torus = w.header.torus }

-- the parts that the tiles define
unfoldable pub parts_of : WrittenArch → Parts
parts_of w = record {
  name = w.header.name;
  contexts = w.header.contexts;
  memory = w.header.memory;
  elements = grid_elements w (grid_of w) 0 w.header.grid;
  hub = w.header.hub;
}
