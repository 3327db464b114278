-- The chips at which ways begin and end.
use Rattle.std.specs.Prelude.{◌<◌}
use Rattle.cg_layout.specs.declared.ways.Chip.{Chip}
use Rattle.cg_layout.specs.Places.{IsNear}

-- a chip in a tile of the grid, whose place is near the corner of the panel
abbrev pub IsPlaced : Chip → Type 0
IsPlaced c = (c.tile < 1024) × IsNear c.seat
