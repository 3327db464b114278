use Rattle.std.proofs.Common.{◌++◌, ◌∙◌, ap}
use Rattle.std.specs.Prelude.{codes}
use Rattle.cg_layout.specs.Layout.{frame_of}
use Rattle.cg_layout.specs.Svg.{group_head, words_text, mark_end}
use Rattle.cg_show.specs.Marked.{links_text, starts_text, stays_text}
use Rattle.cg_show.specs.Panels.{panel_left, panel_top, slot_words}
use Rattle.cg_show.proofs.Steps.{joined}
use Rattle.cg_show.proofs.panels.push_grid.Goals as goal

pub returns : goal.returns
returns c =
    let m = c.args.scene.marks.now in
    let s = c.args.slot in
    let A = c.args.scene.layout.now in
    let old = c.args.text.now.items in
    let first = c.push_group.new.text.items in
    let second = c.push_slot.new.text.items in
    let third = c.extend_from_slice.new.self.items in
    let fourth = c.push_links.new.text.items in
    let fifth = c.extend_from_slice-2.new.self.items in
    let sixth = c.push_starts.new.text.items in
    let seventh = c.push_stays.new.text.items in
    let last = c.extend_from_slice-3.new.self.items in
    joined old (group_head (panel_left (frame_of m.arch) s) (panel_top (frame_of m.arch) s)) first last _
    (c.in_ok-push_group.ensures ∙ ap (λ z. old ++ group_head z c.panel_top-top.result) c.panel_left-left.ensures
    ∙ ap (λ z. old ++ group_head (panel_left (frame_of A) s) z) c.panel_top-top.ensures
    ∙ ap (λ z. old ++ group_head (panel_left (frame_of z) s) (panel_top (frame_of z) s)) c.requires.layout)
    (joined first (words_text (codes "h") 34 6 (slot_words s)) second last _ c.in_ok-push_slot.ensures
    (joined second (codes "<use xlink:href='#tiles'/>") third last _ c.in_ok-extend_from_slice.ensures.items
    (joined third (links_text m s) fourth last _ c.in_ok-push_links.ensures
    (joined fourth (codes "<use xlink:href='#boxes'/>") fifth last _ c.in_ok-extend_from_slice-2.ensures.items
    (joined fifth (starts_text m s) sixth last _ c.in_ok-push_starts.ensures
    (joined sixth (stays_text m s) seventh last mark_end c.in_ok-push_stays.ensures c.in_ok-extend_from_slice-3.ensures.items))))))
