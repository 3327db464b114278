use Rattle.std.proofs.Common.{◌≡◌, ap, length, arith}
use Rattle.cg_show.specs.Panels.{cell_part, column_text}
use Rattle.cg_show.proofs.Steps.{unbegun, grown, ended}
use Rattle.cg_show.proofs.shared.push_column.Goals as goal

pub loop-resource-init : goal.loop-resource-init
loop-resource-init c = unbegun _ _

pub loop-resource-preserved : goal.loop-resource-preserved
loop-resource-preserved c = grown (cell_part) _ _ _ _ c.loop-resource.invariant c.in_ok-push_rect.ensures

pub returns : goal.returns
unfolding column_text
returns c =
    let all = ap length (c.resources-resource-end.ensures.resources) in
    let last : c.loop-resource.resource ≡ length c.args.arch.now.resources = omega (arith, all) in
    ended (cell_part) _ _ _ _ c.loop-resource.invariant last
