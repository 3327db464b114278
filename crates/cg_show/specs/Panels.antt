-- Panels, one for each slot: the grid of tiles, or where names have no tiles a column of the reservation table.
use Rattle.std.specs.Prelude.{ℕ, zero, suc, ◌+◌, ◌*◌, ◌-◌, ◌/◌, ◌%◌, Bool, ◌&&◌, not, eqb, nat_lt, nat_le, List, [], ◌++◌, length, if◌then◌else◌, codes, decimal}
use Rattle.cg_model.specs.Array.{Arch}
use Rattle.cg_check.specs.Legal.{Mapped}
use Rattle.cg_list_laws.specs.Below.{lists_below}
use Rattle.cg_layout.specs.Tiles.{row_of, column_of, tile_of, is_tiled}
use Rattle.cg_layout.specs.declared.spot.Spot.{Spot}
use Rattle.cg_layout.specs.declared.spot.Frame.{Frame}
use Rattle.cg_layout.specs.Layout.{frame_of, corner, seat, box, tile_height, panel_width, panel_height}
use Rattle.cg_layout.specs.Svg.{rect_text, words_text, group_head, mark_end}
use Rattle.cg_show.specs.Words.{resource_name}
use Rattle.cg_show.specs.Marked.{starts_text, stays_text, links_text, cells_text}

-- ---- what all panels share

-- resource r is the first of its tile: the one before it is in another
abbrev pub begins_tile : Arch → ℕ → Bool
begins_tile A r = not (nat_lt 0 r && eqb (tile_of A (r - 1)) (tile_of A r))

-- the frame of a tile, and its row and column
abbrev pub tile_text : Spot → ℕ → ℕ → List ℕ
tile_text c height t =
    rect_text (codes "t") (record { x = c.x; y = c.y; width = 170; height = height })
    ++ words_text (codes "s") (c.x + 5) (c.y + 11) (decimal (row_of t) ++ (codes "," ++ decimal (column_of t)))

abbrev pub frame_text : Arch → Frame → ℕ → List ℕ
frame_text A F r = if begins_tile A r then tile_text (corner F (tile_of A r)) (tile_height F) (tile_of A r) else []

abbrev pub chip_text : Spot → List ℕ
chip_text b = rect_text (codes "e") (record { x = b.x; y = b.y; width = 33; height = 12 })

-- the empty chip of resource r, after the frame of its tile where it is the first of the tile; and all of them
abbrev pub tile_part : Arch → ℕ → List ℕ
tile_part A r = frame_text A (frame_of A) r ++ chip_text (seat A (frame_of A) r)

unfoldable pub tiles_text : Arch → List ℕ
tiles_text A = lists_below (tile_part A) (length A.resources)

-- the empty boxes of units
abbrev pub box_text : Spot → List ℕ
box_text b = rect_text (codes "u") (record { x = b.x; y = b.y; width = 84; height = 36 })

abbrev pub box_part : Arch → ℕ → List ℕ
box_part A x = box_text (box A (frame_of A) x)

unfoldable pub boxes_text : Arch → List ℕ
boxes_text A = lists_below (box_part A) (length A.units)

-- the empty cells of a column
abbrev pub cell_part : ℕ → List ℕ
cell_part r = rect_text (codes "e") (record { x = 0; y = 14 + 18 * r; width = 100; height = 16 })

unfoldable pub column_text : Arch → List ℕ
column_text A = lists_below cell_part (length A.resources)

-- the names of the rows, to the left of the first column
abbrev pub row_part : Mapped → ℕ → List ℕ
row_part m r = words_text (codes "a") 250 (96 + 18 * r) (resource_name m r)

unfoldable pub rows_text : Mapped → List ℕ
rows_text m = lists_below (row_part m) (length m.arch.resources)

-- ---- panels

abbrev pub slot_words : ℕ → List ℕ
slot_words s = codes "slot " ++ decimal s

-- there are three panels in a row
abbrev pub panel_left : Frame → ℕ → ℕ
panel_left F s = 30 + (panel_width F + 24) * (s % 3)

abbrev pub panel_top : Frame → ℕ → ℕ
panel_top F s = 70 + (panel_height F + 40) * (s / 3)

-- the grid in slot s with given marks: empty tiles, lines over them, boxes and chips on top
abbrev pub grid_with : Mapped → ℕ → List ℕ → List ℕ → List ℕ → List ℕ
grid_with m s links starts stays =
    group_head (panel_left (frame_of m.arch) s) (panel_top (frame_of m.arch) s)
    ++ (words_text (codes "h") 34 6 (slot_words s)
    ++ (codes "<use xlink:href='#tiles'/>" ++ (links ++ (codes "<use xlink:href='#boxes'/>" ++ (starts ++ (stays ++ mark_end))))))

abbrev pub grid_panel : Mapped → ℕ → List ℕ
grid_panel m s = grid_with m s (links_text m s) (starts_text m s) (stays_text m s)

-- the column of slot s with given cells
abbrev pub column_with : ℕ → List ℕ → List ℕ
column_with s cells =
    group_head (260 + 104 * s) 70
    ++ (words_text (codes "h") 0 6 (slot_words s) ++ (codes "<use xlink:href='#tiles'/>" ++ (cells ++ mark_end)))

abbrev pub column_panel : Mapped → ℕ → List ℕ
column_panel m s = column_with s (cells_text m s)

unfoldable pub panel_text : Mapped → ℕ → List ℕ
panel_text m s = if is_tiled m.arch then grid_panel m s else column_panel m s

-- the greatest number of first panels, at most n, that take at most `room` bytes together
unfoldable pub shown : Mapped → ℕ → ℕ → ℕ
shown m room zero = 0
shown m room (suc n) = if nat_le (length (lists_below (panel_text m) (suc n))) room then suc n else shown m room n
