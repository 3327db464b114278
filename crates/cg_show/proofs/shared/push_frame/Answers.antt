use Rattle.std.proofs.Common.{◌≡◌, true, false, sym, ◌∙◌}
use Rattle.cg_layout.specs.Layout.{frame_of}
use Rattle.cg_show.specs.Panels.{begins_tile, tile_text, frame_text}
use Rattle.cg_show.proofs.Panelled.{same_part, no_part, frame_shown, frame_hidden}
use Rattle.cg_show.proofs.shared.push_frame.Goals as goal

pub returns-then-begins_tile : goal.returns-then-begins_tile
returns-then-begins_tile c =
    let A = c.args.layout.now in
    let r = c.args.resource in
    let begins : true ≡ begins_tile A r = sym c.if-begins_tile.true ∙ c.begins_tile.ensures in
    same_part c.push_tile.result c.args.text.now.items c.push_tile.new.text.items (tile_text c.corner-spot.result c.tile_height.result c.tile.result) (frame_text A (frame_of A) r)
    (frame_shown A r c.corner-spot.result c.tile_height.result c.tile.result c.corner-spot.ensures c.tile_height.ensures c.tile.ensures begins)
    c.push_tile.ensures

pub returns-else-begins_tile : goal.returns-else-begins_tile
returns-else-begins_tile c =
    let A = c.args.layout.now in
    let r = c.args.resource in
    let begins : false ≡ begins_tile A r = sym c.if-begins_tile.false ∙ c.begins_tile.ensures in
    no_part c.args.text.now.items (frame_text A (frame_of A) r) (frame_hidden A r begins)
