use Rattle.std.proofs.Common.{◌∙◌}
use Rattle.cg_occupancy.specs.Marks.{position_of}
use Rattle.cg_show.proofs.Panelled.{cell_is}
use Rattle.cg_show.proofs.marked.push_cell_at.Goals as goal

pub returns : goal.returns
returns c =
    cell_is c.args.marks.now c.args.resource (position_of c.args.stay) c.args.text.now.items
    c.push_mark.new.text.items c.push_rect.new.text.items c.push_name_with.new.text.items c.extend_from_slice.new.self.items
    c.colour.result c.from-top.result c.round_of-round.result c.as_str.result.now c.node_name-name.result.now c.as_str-2.result.now
    c.colour.ensures (c.as_str.ensures.value ∙ c.in_ok-title.ensures) c.from-top.ensures c.node_name-name.ensures c.round_of-round.ensures (c.as_str-2.ensures.value ∙ c.in_ok-rest.ensures.ok)
    c.in_ok-push_mark.ensures c.in_ok-push_rect.ensures c.in_ok-push_name_with.ensures c.in_ok-extend_from_slice.ensures.items
