use Rattle.std.proofs.Common.{◌≡◌, drop}
use Rattle.cg_grid.specs.Rules.{first_part, applies}
use Rattle.cg_grid.proofs.rules.first_part.Given as goal

abbrev pub invariant-loop-tile : goal.invariant-loop-tile
invariant-loop-tile l = first_part (applies l.rule) (drop l.tile-index l.tiles) ≡ first_part (applies l.rule) l.tiles
