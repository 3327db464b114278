use Rattle.std.proofs.Common.{◌≡◌, ◌∙◌, sym, ap, ◌∷◌, [], ◌++◌, map, arith}
use Rattle.std.specs.Prelude.{string_bytes}
use Rattle.std.proofs.lemmas.List.{map-append}
use Rattle.cg_list_laws.specs.Below.{lists_below}
use Rattle.cg_layout.specs.Tiles.{prefixes, tile_prefix}
use Rattle.cg_list_laws.proofs.Grown.{begun, grown_alone}
use Rattle.cg_layout.proofs.tiles.prefixes.Goals as goal

pub loop-tile-init : goal.loop-tile-init
loop-tile-init c = ap (map string_bytes) c.new-list.ensures.items ∙ sym (begun (λ t. tile_prefix t ∷ []))

pub loop-tile-preserved : goal.loop-tile-preserved
loop-tile-preserved c =
    grown_alone (λ t. tile_prefix t ∷ []) c.loop-tile.tile _ _ c.loop-tile.invariant
    (ap (map string_bytes) c.in_ok-push.ensures.items ∙ map-append string_bytes c.loop-tile.list.items (c.in_ok-tile_prefix.field-0 ∷ [])
    ∙ ap (λ z. map string_bytes c.loop-tile.list.items ++ z ∷ []) c.in_ok-tile_prefix.ensures)

pub returns : goal.returns
unfolding prefixes
returns c =
    let last : c.loop-tile.tile ≡ 1024 = omega arith in
    c.loop-tile.invariant ∙ ap (lists_below (λ t. tile_prefix t ∷ [])) last
