use Rattle.std.proofs.Common.{Some, ap}
use Rattle.cg_occupancy.specs.Marks.{position_of}
use Rattle.cg_show.specs.Marked.{cell_by, cell_in}
use Rattle.cg_show.proofs.Panelled.{same_part}
use Rattle.cg_show.proofs.marked.push_cell.Goals as goal

pub returns-in-Some : goal.returns-in-Some
returns-in-Some c =
    let m = c.args.marks.now in
    let r = c.args.resource in
    same_part c.push_cell_at.result c.args.text.now.items c.push_cell_at.new.text.items (cell_by m r (Some (position_of c.in-Some.stay))) (cell_in m c.args.slot r)
    (ap (cell_by m r) c.in-Some.ensures)
    c.push_cell_at.ensures
