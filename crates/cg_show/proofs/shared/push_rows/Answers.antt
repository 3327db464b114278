use Rattle.std.proofs.Common.{◌≡◌, ◌+◌, ◌*◌, ◌++◌, ◌∙◌, ap, length, arith}
use Rattle.std.specs.Prelude.{codes}
use Rattle.cg_layout.specs.Svg.{words_text}
use Rattle.cg_show.specs.Panels.{row_part, rows_text}
use Rattle.cg_show.proofs.Steps.{unbegun, grown, ended}
use Rattle.cg_show.proofs.shared.push_rows.Goals as goal

pub loop-resource-init : goal.loop-resource-init
loop-resource-init c = unbegun _ _

pub loop-resource-preserved : goal.loop-resource-preserved
loop-resource-preserved c = grown (row_part c.args.marks.now) _ _ _ _ c.loop-resource.invariant
    (c.in_ok-push_words.ensures ∙ ap (λ z. c.loop-resource.text.items ++ words_text (codes "a") 250 (96 + 18 * c.loop-resource.resource) z) c.resource_name-name.ensures)

pub returns : goal.returns
unfolding rows_text
returns c =
    let all = ap length (c.resources-resource-end.ensures.resources ∙ ap (λ z. z.resources) c.arch.ensures.arch) in
    let last : c.loop-resource.resource ≡ length c.args.marks.now.arch.resources = omega (arith, all) in
    ended (row_part c.args.marks.now) _ _ _ _ c.loop-resource.invariant last
