-- The way of a line from the chip of a resource to that of a resource that it drives: it leaves its chip at the right
-- and arrives at the left. To a column further to the right it is a curve; back to the left it goes between the tiles,
-- so that it crosses no box; where it is shorter around the edge of the panel, it leaves the panel and comes in on the
-- other side.
use Rattle.std.specs.Prelude.{ℕ, ◌+◌, ◌-◌, ◌*◌, ◌/◌, ◌%◌, max, min, Bool, ◌&&◌, eqb, nat_lt, List, ◌++◌, if◌then◌else◌, codes, decimal}
use Rattle.cg_model.specs.declared.array.Kind.{Kind}
use Rattle.cg_model.specs.declared.array.Kind.TheVariants.{Wire, Register, Port, Out}
use Rattle.cg_model.specs.Array.{Arch, resource}
pub use Rattle.cg_layout.specs.declared.ways.Bends.{Bends}
pub use Rattle.cg_layout.specs.declared.ways.Chip.{Chip}
use Rattle.cg_layout.specs.Tiles.{row_of, column_of, tile_of}
use Rattle.cg_layout.specs.Layout.{Frame, Spot, corner, beyond, seat, tile_height, panel_width, panel_height}

-- lines of different values run side by side in six lanes
abbrev pub lane : ℕ → ℕ
lane v = v % 6

-- the lanes above and below tile t, and to its right
abbrev pub above : Frame → ℕ → ℕ → ℕ
above F t k = (corner F t).y + 3 * k - 24

abbrev pub below : Frame → ℕ → ℕ → ℕ
below F t k = (corner F t).y + tile_height F + 6 + 3 * k

abbrev pub beside : Frame → ℕ → ℕ → ℕ
beside F t k = (corner F t).x + 176 + 3 * k

-- where a way leaves its tile, and where it enters the other tile
abbrev pub exit_by : Frame → ℕ → ℕ → ℕ → Kind → ℕ
exit_by F t k y Out = y
exit_by F t k y Register = below F t k
exit_by F t k y Wire = above F t k
exit_by F t k y Port = above F t k

abbrev pub turn_by : Frame → ℕ → ℕ → ℕ → Kind → ℕ
turn_by F t k x Out = beside F t k
turn_by F t k x Register = x + 2 + k / 2
turn_by F t k x Wire = x + 2 + k / 2
turn_by F t k x Port = x + 2 + k / 2

abbrev pub entry_by : Frame → ℕ → ℕ → Kind → ℕ
entry_by F t k Register = below F t k
entry_by F t k Wire = above F t k
entry_by F t k Port = above F t k
entry_by F t k Out = above F t k

-- the chip of resource r
abbrev pub chip : Arch → Frame → ℕ → Chip
chip A F r = record { tile = tile_of A r; kind = (resource A r).kind; seat = seat A F r }

-- the bends of the way in lane k from one chip to another
abbrev pub bends_by : Frame → ℕ → Chip → Chip → Bends
bends_by F k from to = record {
  start = beyond from.seat 33 6;
  turn = turn_by F from.tile k (from.seat.x + 33) from.kind;
  exit = exit_by F from.tile k (from.seat.y + 6) from.kind;
  gap = beside F from.tile k;
  entry = entry_by F to.tile k to.kind;
  last = to.seat.x - (5 + k / 2);
  finish = record { x = to.seat.x - 1; y = to.seat.y + 6 };
}

-- the bends of the way of node v's value from resource q to resource r
abbrev pub bends : Arch → Frame → ℕ → ℕ → ℕ → Bends
bends A F v q r = bends_by F (lane v) (chip A F q) (chip A F r)

-- the beginning of a curve from s towards a point, and the end of a curve to f from a point
abbrev pub departure : Spot → ℕ → ℕ → List ℕ
departure s x y = codes "M" ++ (decimal s.x ++ (codes " " ++ (decimal s.y ++ (codes "C" ++ (decimal x ++ (codes " " ++ (decimal y ++ codes " ")))))))

abbrev pub arrival : Spot → ℕ → ℕ → List ℕ
arrival f x y = decimal x ++ (codes " " ++ (decimal y ++ (codes " " ++ (decimal f.x ++ (codes " " ++ decimal f.y)))))

-- a curve that begins and ends horizontally, m pixels long on both sides
abbrev pub curve : Spot → Spot → ℕ → List ℕ
curve s f m = departure s (s.x + m) s.y ++ arrival f (f.x - m) f.y

-- the way from a chip to itself, above it
abbrev pub circuit : Spot → Spot → List ℕ
circuit s f = departure s (s.x + 12) (s.y - 14) ++ arrival f (f.x - 12) (s.y - 14)

-- the first bends of a way, and the last
abbrev pub leaving : Bends → List ℕ
leaving b = codes "M" ++ (decimal b.start.x ++ (codes " " ++ (decimal b.start.y ++ (codes "H" ++ (decimal b.turn ++ (codes "V" ++ decimal b.exit))))))

abbrev pub coming : Bends → List ℕ
coming b = codes "V" ++ (decimal b.finish.y ++ (codes "H" ++ decimal b.finish.x))

-- the part of a way that goes to the gap between the tiles, and up or down in it
abbrev pub aisle : Bends → List ℕ
aisle b = codes "H" ++ (decimal b.gap ++ (codes "V" ++ decimal b.entry))

abbrev pub passage : Bends → List ℕ
passage b = if eqb b.exit b.entry then codes "" else aisle b

abbrev pub back : Bends → List ℕ
back b = leaving b ++ (passage b ++ (codes "H" ++ (decimal b.last ++ coming b)))

-- the way over the right edge, the left, the upper and the lower
abbrev pub over_right : Frame → Bends → List ℕ
over_right F b =
    codes "M" ++ (decimal b.start.x ++ (codes " " ++ (decimal b.start.y ++ (codes "H" ++ (decimal (panel_width F) ++ (codes "M0 " ++ (decimal b.finish.y ++
    (codes "H" ++ decimal b.finish.x))))))))

abbrev pub over_left : Frame → Bends → List ℕ
over_left F b =
    leaving b ++ (passage b ++ (codes "H0M" ++ (decimal (panel_width F) ++ (codes " " ++ (decimal b.entry ++ (codes "H" ++ (decimal b.last ++ coming b)))))))

abbrev pub over_top : Frame → Bends → List ℕ
over_top F b =
    leaving b ++ (codes "H" ++ (decimal b.gap ++ (codes "V10M" ++ (decimal b.last ++ (codes " " ++ (decimal (panel_height F) ++ coming b))))))

abbrev pub over_bottom : Frame → Bends → List ℕ
over_bottom F b =
    leaving b ++ (codes "H" ++ (decimal b.gap ++ (codes "V" ++ (decimal (panel_height F) ++ (codes "M" ++ (decimal b.last ++ (codes " 10" ++ coming b)))))))

-- among n rows or columns the way from a to b is shorter around the edge
abbrev pub is_round : ℕ → ℕ → ℕ → Bool
is_round n a b = nat_lt 2 n && nat_lt n (2 * (max a b - min a b))

abbrev pub round_columns : Frame → ℕ → ℕ → Bends → List ℕ
round_columns F a b bends = if nat_lt b a then over_right F bends else over_left F bends

abbrev pub round_rows : Frame → ℕ → ℕ → Bends → List ℕ
round_rows F a b bends = if nat_lt a b then over_top F bends else over_bottom F bends

-- the way from one tile to another inside the panel
abbrev pub inside : ℕ → ℕ → Bends → List ℕ
inside t u b =
    if nat_lt (column_of t) (column_of u) then curve b.start b.finish (if eqb (row_of t) (row_of u) then 24 else 40)
    else back b

-- the way from one tile to another
abbrev pub across : Frame → ℕ → ℕ → Bends → List ℕ
across F t u b =
    if is_round F.columns (column_of t) (column_of u) then round_columns F (column_of t) (column_of u) b
    else (if is_round F.rows (row_of t) (row_of u) then round_rows F (row_of t) (row_of u) b
    else inside t u b)

-- the way within a tile
abbrev pub within : Bends → List ℕ
within b = curve b.start b.finish (if nat_lt b.start.x b.finish.x then 6 else 14)

abbrev pub way_by : Frame → Bool → ℕ → ℕ → Bends → List ℕ
way_by F same t u b = if same then circuit b.start b.finish else (if eqb t u then within b else across F t u b)

-- the way of node v's value from resource q to resource r
unfoldable pub way : Arch → Frame → ℕ → ℕ → ℕ → List ℕ
way A F v q r = way_by F (eqb q r) (tile_of A q) (tile_of A r) (bends A F v q r)
