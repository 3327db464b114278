use Rattle.std.proofs.Common.{◌≡◌}
use Rattle.toml.specs.View.{members_view}
use Rattle.cg_grid.specs.Written.{are_tiles}
use Rattle.cg_grid.proofs.reading.are_tiles.Given as goal

abbrev pub invariant-loop-key : goal.invariant-loop-key
invariant-loop-key l = are_tiles (members_view l.key-iterator) ≡ are_tiles (members_view l.tiles.entries)
