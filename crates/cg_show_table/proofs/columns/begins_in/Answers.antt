use Rattle.std.proofs.Common.{◌≡◌, ◌*◌, arith}
use Rattle.cg_show_table.specs.Columns.{columns}
use Rattle.cg_show_table.proofs.Rows.{starts_of_none}
use Rattle.cg_show_table.proofs.columns.begins_in.Goals as goal

pub returns-then-count-eq0 : goal.returns-then-count-eq0
returns-then-count-eq0 c =
    let g = c.args.grid in
    let none : c.columns-count.result ≡ 0 = omega arith in
    starts_of_none c.args.marks.now c.args.unit (c.args.block * g.across) (columns g c.args.block) c.columns-count.result c.columns-count.ensures none
