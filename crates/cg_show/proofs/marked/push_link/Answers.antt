use Rattle.std.proofs.Common.{ap}
use Rattle.cg_occupancy.specs.Marks.{position_of}
use Rattle.cg_show.specs.Marked.{link_from, link_by, link_in}
use Rattle.cg_show.proofs.Panelled.{same_part}
use Rattle.cg_show.proofs.marked.push_link.Goals as goal

pub returns-in-Some : goal.returns-in-Some
returns-in-Some c =
    let m = c.args.scene.marks.now in
    let stay = c.in-Some.stay in
    same_part c.push_link_of.result c.args.text.now.items c.push_link_of.new.text.items (link_from m (position_of stay) stay.from) (link_in m c.args.slot c.args.resource)
    (ap (link_by m) c.in-Some.ensures)
    c.push_link_of.ensures
