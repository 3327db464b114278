use Rattle.std.proofs.Common.{◌≡◌, drop}
use Rattle.cg_grid.specs.Rules.{unknown_tile}
use Rattle.cg_grid.proofs.rules.unknown_tile.Given as goal

abbrev pub invariant-loop-row : goal.invariant-loop-row
invariant-loop-row l = unknown_tile l.tiles l.row (drop l.row l.grid) ≡ unknown_tile l.tiles 0 l.grid
