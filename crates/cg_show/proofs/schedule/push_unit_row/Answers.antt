use Rattle.std.proofs.Common.{◌+◌, refl}
use Rattle.std.specs.Prelude.{codes}
use Rattle.cg_list_laws.specs.Below.{lists_below}
use Rattle.cg_show.specs.Words.{unit_name}
use Rattle.cg_show.specs.Schedule.{bar_in}
use Rattle.cg_show.proofs.Steps.{joined, same_words}
use Rattle.cg_show.proofs.schedule.push_unit_row.Goals as goal

pub returns : goal.returns
returns c =
    let m = c.args.marks.now in
    let old = c.args.text.now.items in
    let first = c.push_words.new.text.items in
    let last = c.push_unit_bars.new.text.items in
    joined old _ first last (lists_below (bar_in m c.args.unit c.args.top) m.mapping.ii)
    (same_words (codes "a") old first 252 252 (c.args.top + 12) c.unit_name.result.now (unit_name m c.args.unit) c.in_ok-push_words.ensures refl c.unit_name.ensures)
    c.in_ok-push_unit_bars.ensures
