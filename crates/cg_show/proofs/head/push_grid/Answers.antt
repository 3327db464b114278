use Rattle.std.specs.Prelude.{codes}
use Rattle.cg_show.specs.Panels.{tiles_text, boxes_text}
use Rattle.cg_show.proofs.Steps.{joined}
use Rattle.cg_show.proofs.head.push_grid.Goals as goal

pub returns : goal.returns
returns c =
    let A = c.args.layout.now in
    let first = c.extend_from_slice.new.self.items in
    let second = c.push_tiles.new.text.items in
    let third = c.extend_from_slice-2.new.self.items in
    let fourth = c.push_boxes.new.text.items in
    let last = c.extend_from_slice-3.new.self.items in
    joined c.args.text.now.items (codes "<defs><g id='tiles'>") first last _ c.in_ok-extend_from_slice.ensures.items
    (joined first (tiles_text A) second last _ c.in_ok-push_tiles.ensures
    (joined second (codes "</g><g id='boxes'>") third last _ c.in_ok-extend_from_slice-2.ensures.items
    (joined third (boxes_text A) fourth last (codes "</g></defs>\n") c.in_ok-push_boxes.ensures c.in_ok-extend_from_slice-3.ensures.items)))
