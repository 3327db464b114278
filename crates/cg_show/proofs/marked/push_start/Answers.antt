use Rattle.std.proofs.Common.{◌∙◌, ap}
use Rattle.cg_layout.specs.Layout.{frame_of, box}
use Rattle.cg_show.specs.Marked.{start_mark, start_by, start_in}
use Rattle.cg_show.proofs.Panelled.{same_part}
use Rattle.cg_show.proofs.marked.push_start.Goals as goal

pub returns-in-Some : goal.returns-in-Some
returns-in-Some c =
    let m = c.args.scene.marks.now in
    let x = c.args.unit in
    let v = c.in-Some.node in
    same_part c.push_start_at.result c.args.text.now.items c.push_start_at.new.text.items (start_mark m x c.unit_box-spot.result v) (start_in m c.args.slot x)
    (ap (λ b. start_mark m x b v) (c.unit_box-spot.ensures ∙ ap (λ A. box A (frame_of A) x) c.requires.layout) ∙ ap (start_by m x) c.in-Some.ensures)
    c.push_start_at.ensures
