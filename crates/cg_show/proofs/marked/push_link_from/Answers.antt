use Rattle.std.proofs.Common.{◌∙◌, ap}
use Rattle.cg_occupancy.specs.Marks.{position_of}
use Rattle.cg_layout.specs.Layout.{frame_of, seat}
use Rattle.cg_layout.specs.Ways.{way}
use Rattle.cg_show.proofs.Panelled.{link_is}
use Rattle.cg_show.proofs.marked.push_link_from.Goals as goal

pub returns : goal.returns
returns c =
    let stay = c.args.stay in
    let from = c.args.from in
    link_is c.args.scene.marks.now (position_of stay) from c.args.text.now.items
    c.push_mark.new.text.items c.push_path.new.text.items c.push_ring_by.new.text.items c.extend_from_slice.new.self.items
    c.colour.result c.as_str.result.now c.line_class.result.now c.as_str-2.result.now c.kind_of-kind.result c.seat.result
    c.colour.ensures (c.as_str.ensures.value ∙ c.in_ok-title.ensures) c.kind_of-kind.ensures c.line_class.ensures
    (c.as_str-2.ensures.value ∙ c.in_ok-way.ensures ∙ ap (λ A. way A (frame_of A) stay.source from stay.resource) c.requires)
    (c.seat.ensures ∙ ap (λ A. seat A (frame_of A) from) c.requires)
    c.in_ok-push_mark.ensures c.in_ok-push_path.ensures c.in_ok-push_ring_by.ensures c.in_ok-extend_from_slice.ensures.items
