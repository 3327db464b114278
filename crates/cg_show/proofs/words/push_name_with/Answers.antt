use Rattle.std.proofs.Common.{◌≡◌, ◌++◌, ◌∙◌, ap}
use Rattle.std.specs.Prelude.{codes}
use Rattle.cg_layout.specs.Svg.{words_head}
use Rattle.cg_show.specs.Words.{cut}
use Rattle.cg_show.proofs.Steps.{joined, headed}
use Rattle.cg_show.proofs.words.push_name_with.Goals as goal

pub returns : goal.returns
returns c =
    let old = c.args.text.now.items in
    let class = c.args.class.now in
    let x = c.args.at.0 in
    let y = c.args.at.1 in
    let first = c.push_words_head.new.text.items in
    let second = c.push_cut.new.text.items in
    let third = c.extend_from_slice.new.self.items in
    let last = c.extend_from_slice-2.new.self.items in
    let name = cut c.args.most c.args.name.now in
    let rest = c.args.rest.now in
    let said : c.as_bytes.result.now ≡ rest = cc in
    joined old (words_head class x y) first last ((name ++ rest) ++ codes "</text>") c.in_ok-push_words_head.ensures
    (joined first (name ++ rest) third last (codes "</text>") (joined first name second third rest c.in_ok-push_cut.ensures (c.in_ok-extend_from_slice.ensures.items ∙ ap (λ z. second ++ z) said)) c.in_ok-extend_from_slice-2.ensures.items)
    ∙ ap (λ z. old ++ z) (headed class x y (name ++ rest))
