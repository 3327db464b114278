use Rattle.std.proofs.Common.{◌≡◌}
use Rattle.toml.specs.View.{members_view}
use Rattle.cg_reading.proofs.Lists.{before}
use Rattle.cg_grid.specs.Written.{tiles_in}
use Rattle.cg_grid.proofs.reading.tiles_in.Given as goal

abbrev pub invariant-loop-key : goal.invariant-loop-key
invariant-loop-key l = before l.tiles.items (tiles_in (members_view l.key-iterator)) ≡ tiles_in (members_view l.members.entries)
