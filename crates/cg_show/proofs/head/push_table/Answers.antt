use Rattle.std.proofs.Common.{◌++◌, ◌∙◌, ap}
use Rattle.std.specs.Prelude.{codes}
use Rattle.cg_show.specs.Panels.{column_text, rows_text}
use Rattle.cg_show.proofs.Steps.{joined}
use Rattle.cg_show.proofs.head.push_table.Goals as goal

pub returns : goal.returns
returns c =
    let m = c.args.marks.now in
    let first = c.extend_from_slice.new.self.items in
    let second = c.push_column.new.text.items in
    let third = c.extend_from_slice-2.new.self.items in
    let last = c.push_rows.new.text.items in
    joined c.args.text.now.items (codes "<defs><g id='tiles'>") first last _ c.in_ok-extend_from_slice.ensures.items
    (joined first (column_text m.arch) second last _ (c.in_ok-push_column.ensures ∙ ap (λ A. first ++ column_text A) c.arch.ensures.arch)
    (joined second (codes "</g></defs>\n") third last (rows_text m) c.in_ok-extend_from_slice-2.ensures.items c.in_ok-push_rows.ensures))
