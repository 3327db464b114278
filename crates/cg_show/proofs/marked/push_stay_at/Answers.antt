use Rattle.std.proofs.Common.{◌∙◌}
use Rattle.cg_occupancy.specs.Marks.{position_of}
use Rattle.cg_show.proofs.Panelled.{stay_is}
use Rattle.cg_show.proofs.marked.push_stay_at.Goals as goal

pub returns : goal.returns
returns c =
    stay_is c.args.marks.now (position_of c.args.stay) c.args.spot c.args.text.now.items
    c.push_mark.new.text.items c.push_rect.new.text.items c.push_name.new.text.items c.extend_from_slice.new.self.items
    c.colour.result c.from-x.result c.from-y.result c.as_str.result.now c.node_name-name.result.now
    c.colour.ensures (c.as_str.ensures.value ∙ c.in_ok-title.ensures) c.from-x.ensures c.from-y.ensures c.node_name-name.ensures
    c.in_ok-push_mark.ensures c.in_ok-push_rect.ensures c.in_ok-push_name.ensures c.in_ok-extend_from_slice.ensures.items
