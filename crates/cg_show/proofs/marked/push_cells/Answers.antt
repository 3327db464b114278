use Rattle.std.proofs.Common.{◌≡◌, ◌∙◌, ap, length, arith}
use Rattle.cg_show.specs.Marked.{cell_in, cells_text}
use Rattle.cg_show.proofs.Steps.{unbegun, grown, ended}
use Rattle.cg_show.proofs.marked.push_cells.Goals as goal

pub loop-resource-init : goal.loop-resource-init
loop-resource-init c = unbegun _ _

pub loop-resource-preserved : goal.loop-resource-preserved
loop-resource-preserved c = grown (cell_in c.args.marks.now c.args.slot) _ _ _ _ c.loop-resource.invariant c.in_ok-push_cell.ensures

pub returns : goal.returns
unfolding cells_text
returns c =
    let all = ap length (c.resources-resource-end.ensures.resources ∙ ap (λ z. z.resources) c.arch.ensures.arch) in
    let last : c.loop-resource.resource ≡ length c.args.marks.now.arch.resources = omega (arith, all) in
    ended (cell_in c.args.marks.now c.args.slot) _ _ _ _ c.loop-resource.invariant last
