-- The neighbours of a cell of a grid.
use Rattle.std.specs.Prelude.{ℕ, ◌+◌, ◌-◌, Bool, Option, Some, None, nat_lt, option_map, if◌then◌else◌}
use Rattle.cg_grid.specs.declared.written.Side.{Side}
use Rattle.cg_grid.specs.declared.written.Side.TheVariants.{Here, North, East, South, West, Anywhere}
use Rattle.cg_grid.specs.declared.grid.Cell.{Cell}
use Rattle.cg_grid.specs.declared.grid.Grid.{Grid}

-- the number before k, of `count` numbers; the one before the first is the last where they wrap, and else none
abbrev pub before : Bool → ℕ → ℕ → Option ℕ
before wraps count k = if nat_lt 0 k then Some (k - 1) else (if wraps then Some (count - 1) else None)

-- the number after k; the one after the last is the first where they wrap, and else none
abbrev pub after : Bool → ℕ → ℕ → Option ℕ
after wraps count k = if nat_lt (k + 1) count then Some (k + 1) else (if wraps then Some 0 else None)

-- the cell in row r of that column, and the cell in column c of that row
abbrev pub in_row : Cell → ℕ → Cell
in_row cell r = record { row = r; column = cell.column }

abbrev pub in_column : Cell → ℕ → Cell
in_column cell c = record { row = cell.row; column = c }

-- the neighbour of a cell on a side, none off the grid
abbrev pub neighbour : Grid → Cell → Side → Option Cell
neighbour grid cell North = option_map (in_row cell) (before grid.torus grid.rows cell.row)
neighbour grid cell East = option_map (in_column cell) (after grid.torus grid.columns cell.column)
neighbour grid cell South = option_map (in_row cell) (after grid.torus grid.rows cell.row)
neighbour grid cell West = option_map (in_column cell) (before grid.torus grid.columns cell.column)
neighbour grid cell Here = Some cell
neighbour grid cell Anywhere = Some cell
