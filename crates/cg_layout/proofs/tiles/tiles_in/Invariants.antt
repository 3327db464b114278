use Rattle.std.proofs.Common.{◌≡◌, take}
use Rattle.cg_layout.specs.Tiles.{tiles_in}
use Rattle.cg_layout.proofs.tiles.tiles_in.Given as goal

abbrev pub invariant-loop-resource : goal.invariant-loop-resource
invariant-loop-resource l = l.tiles.items ≡ tiles_in (take l.resource-index l.resource-items)
