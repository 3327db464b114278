use Rattle.std.proofs.Common.{Some, sym, ap}
use Rattle.cg_occupancy.specs.Marks.{position_of}
use Rattle.cg_show.specs.Marked.{link_from}
use Rattle.cg_show.proofs.Panelled.{same_part, no_part}
use Rattle.cg_show.proofs.marked.push_link_of.Goals as goal

pub returns-in-Some : goal.returns-in-Some
returns-in-Some c =
    let m = c.args.scene.marks.now in
    let p = position_of c.args.stay in
    same_part c.push_link_from.result c.args.text.now.items c.push_link_from.new.text.items (link_from m p (Some c.in-Some.from)) (link_from m p c.args.stay.from)
    (ap (link_from m p) (sym c.in-Some.is))
    c.push_link_from.ensures

pub returns-in-None : goal.returns-in-None
returns-in-None c =
    let m = c.args.scene.marks.now in
    let p = position_of c.args.stay in
    no_part c.args.text.now.items (link_from m p c.args.stay.from) (ap (link_from m p) (sym c.in-None.is))
