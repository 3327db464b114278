use Rattle.std.proofs.Common.{◌≡◌, ◌∙◌, ap, length, arith}
use Rattle.cg_show.specs.Marked.{link_in, links_text}
use Rattle.cg_show.proofs.Steps.{unbegun, grown, ended}
use Rattle.cg_show.proofs.marked.push_links.Goals as goal

pub loop-resource-init : goal.loop-resource-init
loop-resource-init c = unbegun _ _

pub loop-resource-preserved : goal.loop-resource-preserved
loop-resource-preserved c = grown (link_in c.args.scene.marks.now c.args.slot) _ _ _ _ c.loop-resource.invariant c.in_ok-push_link.ensures

pub returns : goal.returns
unfolding links_text
returns c =
    let all = ap length (c.resources-resource-end.ensures.resources ∙ ap (λ z. z.resources) c.arch.ensures.arch) in
    let last : c.loop-resource.resource ≡ length c.args.scene.marks.now.arch.resources = omega (arith, all) in
    ended (link_in c.args.scene.marks.now c.args.slot) _ _ _ _ c.loop-resource.invariant last
