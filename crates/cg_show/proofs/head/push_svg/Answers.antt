use Rattle.std.proofs.Common.{◌++◌, ◌∙◌, ap}
use Rattle.cg_show.specs.Picture.{svg_head, style_text}
use Rattle.cg_show.proofs.Steps.{joined}
use Rattle.cg_show.proofs.head.push_svg.Goals as goal

pub returns : goal.returns
returns c =
    let old = c.args.text.now.items in
    let first = c.extend_from_slice.new.self.items in
    let last = c.extend_from_slice-2.new.self.items in
    let head = svg_head c.args.size.width c.args.size.height in
    joined old head first last style_text
    (c.in_ok-extend_from_slice.ensures.items ∙ ap (λ z. old ++ z) (c.as_bytes.ensures.value ∙ c.in_ok-head.ensures.ok))
    (c.in_ok-extend_from_slice-2.ensures.items ∙ ap (λ z. first ++ z) c.as_bytes-2.ensures.value)
