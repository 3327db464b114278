use Rattle.std.proofs.Common.{◌≡◌, drop}
use Rattle.cg_grid.specs.Rules.{tile_of}
use Rattle.cg_grid.proofs.rules.tile_of.Given as goal

abbrev pub invariant-loop-tile : goal.invariant-loop-tile
invariant-loop-tile l = tile_of (drop l.tile-index l.tiles) l.letter ≡ tile_of l.tiles l.letter
