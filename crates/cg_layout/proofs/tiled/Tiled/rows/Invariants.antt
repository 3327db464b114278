use Rattle.std.proofs.Common.{◌≡◌, ◌+◌, ◌≤◌}
use Rattle.cg_list_laws.specs.Below.{greatest_below}
use Rattle.cg_layout.specs.Tiles.{row_of, tile_of}
use Rattle.cg_layout.proofs.tiled.Tiled.rows.Given as goal

abbrev pub invariant-loop-resource : goal.invariant-loop-resource
invariant-loop-resource l = (l.most ≡ greatest_below (λ r. row_of (tile_of l.self r) + 1) l.resource) × (l.most ≤ 32)
