use Rattle.std.proofs.Common.{◌≡◌, ◌∙◌, ap, length, arith}
use Rattle.cg_show.specs.Marked.{start_in, starts_text}
use Rattle.cg_show.proofs.Steps.{unbegun, grown, ended}
use Rattle.cg_show.proofs.marked.push_starts.Goals as goal

pub loop-unit-init : goal.loop-unit-init
loop-unit-init c = unbegun _ _

pub loop-unit-preserved : goal.loop-unit-preserved
loop-unit-preserved c = grown (start_in c.args.scene.marks.now c.args.slot) _ _ _ _ c.loop-unit.invariant c.in_ok-push_start.ensures

pub returns : goal.returns
unfolding starts_text
returns c =
    let all = ap length (c.units-unit-end.ensures.units ∙ ap (λ z. z.units) c.arch.ensures.arch) in
    let last : c.loop-unit.unit ≡ length c.args.scene.marks.now.arch.units = omega (arith, all) in
    ended (start_in c.args.scene.marks.now c.args.slot) _ _ _ _ c.loop-unit.invariant last
