use Rattle.std.proofs.Common.{◌≡◌, map, ◌∷◌, []}
use Rattle.std.specs.Prelude.{string_bytes}
use Rattle.cg_list_laws.specs.Below.{lists_below}
use Rattle.cg_layout.specs.Tiles.{tile_prefix}
use Rattle.cg_layout.proofs.tiles.prefixes.Given as goal

abbrev pub invariant-loop-tile : goal.invariant-loop-tile
invariant-loop-tile l = map string_bytes l.list.items ≡ lists_below (λ t. tile_prefix t ∷ []) l.tile
