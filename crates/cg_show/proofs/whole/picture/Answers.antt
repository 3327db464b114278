use Rattle.std.proofs.Common.{◌≡◌, ◌-◌, ◌++◌, ◌∙◌, sym, ap, length, map}
use Rattle.std.proofs.lemmas.List.{length-map}
use Rattle.std.specs.Prelude.{string_bytes}
use Rattle.cg_show.specs.Panels.{shown}
use Rattle.cg_show.proofs.Pictured.{height_is, picture_is}
use Rattle.cg_show.proofs.whole.picture.Goals as goal

pub returns : goal.returns
returns c =
    let m = c.args.marks.now in
    let lines = map string_bytes c.args.lines.now in
    let panels = c.in_ok-panels.panels in
    let foot = c.in_ok-foot.foot.items in
    let n = panels.count in
    let old = c.new-text.result.items in
    let first = c.push_head.new.text.items in
    let second = c.extend_from_slice.new.self.items in
    let third = c.push_group.new.text.items in
    let fourth = c.extend_from_slice-2.new.self.items in
    let last = c.extend_from_slice-3.new.self.items in
    let room : c.saturating_sub-room.result ≡ 16000000 - length foot = c.saturating_sub-room.ensures ∙ ap (λ z. 16000000 - z) (c.len.ensures ∙ c.in_ok-foot.foot.ok.0) in
    picture_is m lines old first second third fourth last panels.text.items foot n c.picture_width-width.result _ c.panels_bottom-bottom.result
    c.new-text.ensures.items c.in_ok-foot.ensures (c.in_ok-panels.ensures.count ∙ ap (λ z. shown m z m.mapping.ii) room) c.in_ok-panels.ensures.text
    c.picture_width-width.ensures
    (height_is m n lines c.panels_bottom-bottom.result c.report_top.result (length c.args.lines.now) c.panels_bottom-bottom.ensures.value c.report_top.ensures.value
    (sym (length-map c.args.lines.now string_bytes)))
    c.panels_bottom-bottom.ensures.value
    c.in_ok-push_head.ensures (c.in_ok-extend_from_slice.ensures.items ∙ ap (λ z. first ++ z) c.as_slice.ensures.value)
    c.in_ok-push_group.ensures (c.in_ok-extend_from_slice-2.ensures.items ∙ ap (λ z. third ++ z) c.as_slice-2.ensures.value)
    c.in_ok-extend_from_slice-3.ensures.items
