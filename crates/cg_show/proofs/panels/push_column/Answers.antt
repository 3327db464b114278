use Rattle.std.proofs.Common.{◌+◌, ◌*◌, ◌++◌, ◌∙◌, ap}
use Rattle.std.specs.Prelude.{codes}
use Rattle.cg_layout.specs.Svg.{group_head, words_text, mark_end}
use Rattle.cg_show.specs.Marked.{cells_text}
use Rattle.cg_show.specs.Panels.{slot_words}
use Rattle.cg_show.proofs.Steps.{joined}
use Rattle.cg_show.proofs.panels.push_column.Goals as goal

pub returns : goal.returns
returns c =
    let m = c.args.marks.now in
    let s = c.args.slot in
    let old = c.args.text.now.items in
    let first = c.push_group.new.text.items in
    let second = c.push_slot.new.text.items in
    let third = c.extend_from_slice.new.self.items in
    let fourth = c.push_cells.new.text.items in
    let last = c.extend_from_slice-2.new.self.items in
    joined old (group_head (260 + 104 * s) 70) first last _ (c.in_ok-push_group.ensures ∙ ap (λ z. old ++ group_head (260 + 104 * z) 70) c.from.ensures)
    (joined first (words_text (codes "h") 0 6 (slot_words s)) second last _ c.in_ok-push_slot.ensures
    (joined second (codes "<use xlink:href='#tiles'/>") third last _ c.in_ok-extend_from_slice.ensures.items
    (joined third (cells_text m s) fourth last mark_end c.in_ok-push_cells.ensures c.in_ok-extend_from_slice-2.ensures.items)))
