use Rattle.std.proofs.Common.{◌∙◌}
use Rattle.cg_show.proofs.Rows.{bar_is}
use Rattle.cg_show.proofs.schedule.push_bar.Goals as goal

pub returns : goal.returns
returns c =
    bar_is c.args.marks.now c.args.unit c.args.top c.args.node c.args.text.now.items
    c.push_mark.new.text.items c.push_rect.new.text.items c.push_name.new.text.items c.push_tail.new.text.items c.extend_from_slice.new.self.items
    c.colour.result c.from.result c.time_of-time.result c.latency_of.result c.as_str.result.now c.node_name.result.now
    c.colour.ensures (c.as_str.ensures.value ∙ c.in_ok-title.ensures) (c.from.ensures ∙ c.time_of-time.ensures) c.node_name.ensures c.time_of-time.ensures c.latency_of.ensures
    c.in_ok-push_mark.ensures c.in_ok-push_rect.ensures c.in_ok-push_name.ensures c.in_ok-push_tail.ensures c.in_ok-extend_from_slice.ensures.items
