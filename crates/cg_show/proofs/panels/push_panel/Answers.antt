use Rattle.cg_show.specs.Panels.{grid_panel, column_panel, panel_text}
use Rattle.cg_show.proofs.Panelled.{same_part}
use Rattle.cg_show.proofs.Pictured.{grid_shown, column_shown}
use Rattle.cg_show.proofs.panels.push_panel.Goals as goal

pub returns-in-Some : goal.returns-in-Some
returns-in-Some c =
    let m = c.args.marks.now in
    let s = c.args.slot in
    let tiles = c.requires.tiles c.in-Some.layout c.in-Some.is in
    same_part c.push_grid.result c.args.text.now.items c.push_grid.new.text.items (grid_panel m s) (panel_text m s) (grid_shown m s tiles.0) c.push_grid.ensures

pub returns-in-None : goal.returns-in-None
returns-in-None c =
    let m = c.args.marks.now in
    let s = c.args.slot in
    same_part c.push_column.result c.args.text.now.items c.push_column.new.text.items (column_panel m s) (panel_text m s) (column_shown m s (c.requires.column c.in-None.is)) c.push_column.ensures
