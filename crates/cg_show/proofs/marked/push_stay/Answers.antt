use Rattle.std.proofs.Common.{◌∙◌, ap}
use Rattle.cg_layout.specs.Layout.{frame_of, seat}
use Rattle.cg_occupancy.specs.Marks.{position_of}
use Rattle.cg_show.specs.Marked.{stay_mark, stay_by, stay_in}
use Rattle.cg_show.proofs.Panelled.{same_part}
use Rattle.cg_show.proofs.marked.push_stay.Goals as goal

pub returns-in-Some : goal.returns-in-Some
returns-in-Some c =
    let m = c.args.scene.marks.now in
    let r = c.args.resource in
    let p = position_of c.in-Some.stay in
    same_part c.push_stay_at.result c.args.text.now.items c.push_stay_at.new.text.items (stay_mark m c.seat-spot.result p) (stay_in m c.args.slot r)
    (ap (λ b. stay_mark m b p) (c.seat-spot.ensures ∙ ap (λ A. seat A (frame_of A) r) c.requires.layout) ∙ ap (stay_by m r) c.in-Some.ensures)
    c.push_stay_at.ensures
