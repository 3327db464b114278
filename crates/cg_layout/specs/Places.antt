-- The data of an array of tiles: the tile of each resource, and the places of resources and units.
use Rattle.std.specs.Prelude.{◌≡◌, ℕ, ◌<◌, ◌≤◌, ◌^◌, true, List, slice_index, slice_index_or}
use Rattle.cg_model.specs.Array.{Arch}
use Rattle.cg_layout.specs.Tiles.{is_tiled, tile_of}
use Rattle.cg_layout.specs.Layout.{Frame, Spot, frame_of, seat, box}

-- the tile of each resource, by number
pub record AreTiles (A : Arch) (tiles : List ℕ) : Type 0 where
  pub tiled : is_tiled A ≡ true
  pub each : (r : ℕ) → slice_index tiles r ≡ tile_of A r

-- the corner of the panel
abbrev pub nowhere : Spot
nowhere = record { x = 0; y = 0 }

-- a place near enough to the corner that sums with small numbers don't overflow
abbrev pub IsNear : Spot → Type 0
IsNear s = (s.x < 2 ^ 14) × (s.y < 2 ^ 28)

-- a place, or the corner past the last one
abbrev pub spot : List Spot → ℕ → Spot
spot spots k = slice_index_or spots k nowhere

-- the place of each resource's chip
pub record AreSeats (A : Arch) (F : Frame) (spots : List Spot) : Type 0 where
  pub each : (r : ℕ) → spot spots r ≡ seat A F r
  pub near : (r : ℕ) → IsNear (spot spots r)

-- the place of each unit's box
pub record AreBoxes (A : Arch) (F : Frame) (spots : List Spot) : Type 0 where
  pub each : (x : ℕ) → spot spots x ≡ box A F x

-- a grid has at most 32 rows and 32 columns
abbrev pub IsGrid : Frame → Type 0
IsGrid F = (F.rows ≤ 32) × (F.columns ≤ 32)

-- the data of an array
pub record ArePlaces (A : Arch) (F : Frame) (chips squares : List Spot) : Type 0 where
  pub frame : F ≡ frame_of A
  pub grid : IsGrid F
  pub seats : AreSeats A F chips
  pub boxes : AreBoxes A F squares
