-- A table of units and slots: a row for each unit, a column for each slot, in blocks of as many columns as fit side by
-- side.
use Rattle.std.specs.Prelude.{ℕ, suc, zero, ◌+◌, ◌-◌, ◌*◌, ◌/◌, nat_lt, min, max, length, replicate, List, [], ◌∷◌, ◌++◌, Option, Some, None, option_map, is_some, if◌then◌else◌, codes, decimal}
use Rattle.cg_word.specs.Word.{name_of}
use Rattle.cg_model.specs.Kernel.{node, size}
use Rattle.cg_model.specs.Array.{unit}
use Rattle.cg_model.specs.Mapping.{place}
use Rattle.cg_check.specs.Legal.{Mapped}
use Rattle.cg_list_laws.specs.Below.{lists_below, count_below, greatest_below}
use Rattle.cg_occupancy.specs.Marks.{start_at}
use Rattle.cg_occupancy.specs.Counts.{starts_of}
use Rattle.cg_show_table.specs.declared.columns.Grid.{Grid}

-- the number of characters of a row
abbrev pub widest : ℕ
widest = 120

-- the stage of a node: the number of whole intervals before it begins
abbrev pub stage : Mapped → ℕ → ℕ
stage m v = (place m.mapping v).time / m.mapping.ii

-- a node in a cell: its name, its operation and its stage, as `x1 load @1`
unfoldable pub node_text : Mapped → ℕ → List ℕ
node_text m v = (node m.kernel v).name ++ (codes " " ++ (name_of (node m.kernel v).op ++ (codes " @" ++ decimal (stage m v))))

-- the longest name of a unit that begins a node, and the longest cell
abbrev pub unit_width : Mapped → ℕ → ℕ
unit_width m x = if nat_lt 0 (starts_of m x) then length (unit m.arch x).name else 0

unfoldable pub name_width : Mapped → ℕ
name_width m = greatest_below (unit_width m) (length m.arch.units)

abbrev pub node_width : Mapped → ℕ → ℕ
node_width m v = length (node_text m v)

unfoldable pub cell_width : Mapped → ℕ
cell_width m = greatest_below (node_width m) (size m.kernel)

-- columns are separated by two blanks; there is at least one column
abbrev pub grid_with : ℕ → ℕ → ℕ → Grid
grid_with name cell slots = record { first = name + 2; pitch = cell + 2; across = max 1 ((widest - name) / (cell + 2)); slots = slots }

unfoldable pub grid_of : Mapped → Grid
grid_of m = grid_with (name_width m) (cell_width m) m.mapping.ii

-- the blocks, and the columns of block b
abbrev pub blocks : Grid → ℕ
blocks g = (g.slots + g.across - 1) / g.across

abbrev pub columns : Grid → ℕ → ℕ
columns g b = min g.across (g.slots - b * g.across)

-- the slot in column j of block b
abbrev pub slot_of : Grid → ℕ → ℕ → ℕ
slot_of g b j = b * g.across + j

-- a row with a text at a column of characters, if there is a text
abbrev pub with_text : ℕ → List ℕ → Option (List ℕ) → List ℕ
with_text at row None = row
with_text at row (Some text) = row ++ (replicate (at - length row) 32 ++ text)

-- a row that begins with this text, with the cells of its first n columns
abbrev pub row_text : Grid → List ℕ → (ℕ → Option (List ℕ)) → ℕ → List ℕ
row_text g begin cell zero = begin
row_text g begin cell (suc j) = with_text (g.first + j * g.pitch) (row_text g begin cell j) (cell j)

-- the numbers of the slots
abbrev pub head_cell : Grid → ℕ → ℕ → Option (List ℕ)
head_cell g b j = Some (decimal (slot_of g b j))

abbrev pub head_line : Grid → ℕ → List ℕ
head_line g b = row_text g [] (head_cell g b) (columns g b)

-- the nodes that unit x begins
abbrev pub unit_cell : Mapped → Grid → ℕ → ℕ → ℕ → Option (List ℕ)
unit_cell m g b x j = option_map (node_text m) (start_at m x (slot_of g b j))

abbrev pub unit_line : Mapped → Grid → ℕ → ℕ → List ℕ
unit_line m g b x = row_text g (unit m.arch x).name (unit_cell m g b x) (columns g b)

-- the number of nodes that unit x begins in the slots of block b
abbrev pub starts_in : Mapped → Grid → ℕ → ℕ → ℕ
starts_in m g b x = count_below (λ j. is_some (start_at m x (slot_of g b j))) (columns g b)

-- the line of a unit, where it begins a node
abbrev pub unit_lines : Mapped → Grid → ℕ → ℕ → List (List ℕ)
unit_lines m g b x = if nat_lt 0 (starts_in m g b x) then unit_line m g b x ∷ [] else []

abbrev pub block_lines : Mapped → Grid → ℕ → List (List ℕ)
block_lines m g b = head_line g b ∷ lists_below (unit_lines m g b) (length m.arch.units)

-- the lines of all blocks
unfoldable pub grid_lines : Mapped → List (List ℕ)
grid_lines m = lists_below (block_lines m (grid_of m)) (blocks (grid_of m))
