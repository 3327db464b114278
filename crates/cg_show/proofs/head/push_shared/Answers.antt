use Rattle.cg_show.specs.Picture.{grid_text, table_text, shared_text}
use Rattle.cg_show.proofs.Panelled.{same_part}
use Rattle.cg_show.proofs.Pictured.{grid_shared, table_shared}
use Rattle.cg_show.proofs.head.push_shared.Goals as goal

pub returns-in-Some : goal.returns-in-Some
returns-in-Some c =
    let m = c.args.marks.now in
    let A = c.in-Some.layout.now in
    let tiles = c.requires.tiles c.in-Some.layout c.in-Some.is in
    same_part c.push_grid.result c.args.text.now.items c.push_grid.new.text.items (grid_text A) (shared_text m) (grid_shared m A tiles.1 tiles.0) c.push_grid.ensures

pub returns-in-None : goal.returns-in-None
returns-in-None c =
    let m = c.args.marks.now in
    same_part c.push_table.result c.args.text.now.items c.push_table.new.text.items (table_text m) (shared_text m) (table_shared m (c.requires.column c.in-None.is)) c.push_table.ensures
