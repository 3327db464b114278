use Rattle.std.proofs.Common.{◌++◌, ◌∙◌, ap}
use Rattle.cg_show.specs.Picture.{svg_head, style_text, shared_text, title_text, left_out, head_with}
use Rattle.cg_show.proofs.Steps.{joined}
use Rattle.cg_show.proofs.head.push_head.Goals as goal

pub returns : goal.returns
unfolding head_with
returns c =
    let m = c.args.marks.now in
    let n = c.args.count in
    let first = c.push_svg.new.text.items in
    let second = c.push_shared.new.text.items in
    let third = c.push_title.new.text.items in
    let last = c.push_left_out.new.text.items in
    joined c.args.text.now.items (svg_head c.args.size.width c.args.size.height ++ style_text) first last _ c.in_ok-push_svg.ensures
    (joined first (shared_text m) second last _ c.in_ok-push_shared.ensures
    (joined second (title_text m) third last (left_out n m.mapping.ii) c.in_ok-push_title.ensures
    (c.in_ok-push_left_out.ensures ∙ ap (λ z. third ++ left_out n z) (c.ii.ensures ∙ ap (λ z. z.ii) c.mapping.ensures.mapping))))
