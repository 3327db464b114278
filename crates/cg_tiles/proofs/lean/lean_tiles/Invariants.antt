use Rattle.std.proofs.Common.{◌≡◌, ◌++◌, map}
use Rattle.std.specs.Vec.Iter.{into_iter_items}
use Rattle.cg_tiles.specs.Lean.{lean_tile}
use Rattle.cg_tiles.proofs.lean.lean_tiles.Given as goal

abbrev pub invariant-loop-tile : goal.invariant-loop-tile
invariant-loop-tile l = l.list.items ++ map lean_tile (into_iter_items l.tile-iterator) ≡ map lean_tile l.fn.tiles
