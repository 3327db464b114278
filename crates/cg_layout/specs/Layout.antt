-- The places of the resources and the units of an array of tiles in a panel, in pixels: each resource is a chip of 33
-- by 12, each unit a box of 84 by 36. A tile has its wires at the top, its registers at the bottom, four in a row; its
-- units between them, one below the other, each with its ports at the left and its out at the right. Tiles form a grid,
-- 30 pixels apart, with a margin of 34 pixels.
use Rattle.std.specs.Prelude.{ℕ, ◌+◌, ◌*◌, ◌/◌, ◌%◌, Bool, ◌&&◌, ◌||◌, eqb, nat_lt, length, unwrap_or, if◌then◌else◌}
use Rattle.std.specs.List.{list_any}
use Rattle.cg_model.specs.First.{first_from}
use Rattle.cg_model.specs.declared.array.Kind.{Kind}
use Rattle.cg_model.specs.declared.array.Kind.TheVariants.{Wire, Register, Port, Out}
use Rattle.cg_model.specs.declared.array.Unit.{Unit}
use Rattle.cg_model.specs.Array.{Arch, resource, unit}
use Rattle.cg_list_laws.specs.Below.{count_below, greatest_below}
use Rattle.cg_occupancy.specs.Counts.{same_kind}
pub use Rattle.cg_layout.specs.declared.spot.Spot.{Spot}
pub use Rattle.cg_layout.specs.declared.spot.Frame.{Frame}
use Rattle.cg_layout.specs.Tiles.{row_of, column_of, tile_of, unit_tile}

-- the number of resources of r's tile and kind before r, and of units of x's tile before x
abbrev pub is_beside : Arch → ℕ → ℕ → Bool
is_beside A r q = eqb (tile_of A q) (tile_of A r) && same_kind (resource A q).kind (resource A r).kind

unfoldable pub rank : Arch → ℕ → ℕ
rank A r = count_below (is_beside A r) r

unfoldable pub unit_rank : Arch → ℕ → ℕ
unit_rank A x = count_below (λ y. eqb (unit_tile A y) (unit_tile A x)) x

-- the unit of which r is a port or the out, and the number of the port
abbrev pub holds : ℕ → Unit → Bool
holds r u = eqb u.out r || list_any (λ q. eqb q r) u.ports

abbrev pub holder : Arch → ℕ → ℕ
holder A r = unwrap_or (first_from (λ x u. holds r u) 0 A.units) 0

abbrev pub port_number : ℕ → Unit → ℕ
port_number r u = unwrap_or (first_from (λ p q. eqb q r) 0 u.ports) 0

-- the greatest number of resources of a kind in a tile
abbrev pub most_of : Arch → Kind → ℕ
most_of A kind = greatest_below (λ r. if same_kind (resource A r).kind kind then rank A r + 1 else 0) (length A.resources)

unfoldable pub frame_of : Arch → Frame
frame_of A = record {
  rows = greatest_below (λ r. row_of (tile_of A r) + 1) (length A.resources);
  columns = greatest_below (λ r. column_of (tile_of A r) + 1) (length A.resources);
  wires = most_of A Wire;
  units = greatest_below (λ x. unit_rank A x + 1) (length A.units);
  registers = most_of A Register;
}

-- the number of rows of n chips
abbrev pub chip_rows : ℕ → ℕ
chip_rows n = (n + 3) / 4

-- where a tile's units begin, where its registers begin, and where it ends
abbrev pub units_top : Frame → ℕ
units_top F = 18 + 15 * chip_rows F.wires

abbrev pub registers_top : Frame → ℕ
registers_top F = units_top F + 44 * F.units

abbrev pub tile_height : Frame → ℕ
tile_height F = registers_top F + 15 * chip_rows F.registers + 5

-- the corner of tile t
abbrev pub corner : Frame → ℕ → Spot
corner F t = record { x = 34 + 200 * column_of t; y = 34 + (tile_height F + 30) * row_of t }

-- the place x pixels to the right of a place and y pixels below it
abbrev pub beyond : Spot → ℕ → ℕ → Spot
beyond s x y = record { x = s.x + x; y = s.y + y }

-- chip number k in rows that begin at y
abbrev pub in_rows : Spot → ℕ → ℕ → Spot
in_rows s y k = beyond s (8 + 39 * (k % 4)) (y + 15 * (k / 4))

-- where unit x begins in its tile
abbrev pub unit_top : Arch → Frame → ℕ → ℕ
unit_top A F x = units_top F + 44 * unit_rank A x

abbrev pub seat_by : Arch → Frame → ℕ → Kind → Spot
seat_by A F r Wire = in_rows (corner F (tile_of A r)) 16 (rank A r)
seat_by A F r Register = in_rows (corner F (tile_of A r)) (registers_top F) (rank A r)
seat_by A F r Port = beyond (corner F (tile_of A r)) 5 (unit_top A F (holder A r) + 12 * port_number r (unit A (holder A r)))
seat_by A F r Out = beyond (corner F (tile_of A r)) 132 (unit_top A F (holder A r) + 12)

-- where the chip of resource r begins, and the box of unit x; the corner of the panel where there is none
unfoldable pub seat : Arch → Frame → ℕ → Spot
seat A F r = if nat_lt r (length A.resources) then seat_by A F r (resource A r).kind else record { x = 0; y = 0 }

unfoldable pub box : Arch → Frame → ℕ → Spot
box A F x = if nat_lt x (length A.units) then beyond (corner F (unit_tile A x)) 43 (unit_top A F x) else record { x = 0; y = 0 }

-- the size of a panel
abbrev pub panel_width : Frame → ℕ
panel_width F = 200 * F.columns + 38

abbrev pub panel_height : Frame → ℕ
panel_height F = (tile_height F + 30) * F.rows + 38
