use Rattle.std.proofs.Common.{◌≡◌, ◌++◌, ◌∙◌, ap, length, arith}
use Rattle.cg_show.specs.Panels.{box_text, box_part, boxes_text}
use Rattle.cg_show.proofs.Steps.{unbegun, grown, ended}
use Rattle.cg_show.proofs.shared.push_boxes.Goals as goal

pub loop-unit-init : goal.loop-unit-init
loop-unit-init c = unbegun _ _

pub loop-unit-preserved : goal.loop-unit-preserved
loop-unit-preserved c =
    let A = c.args.layout.now in
    let r = c.loop-unit.unit in
    let old = c.loop-unit.text.items in
    grown (box_part A) _ _ _ _ c.loop-unit.invariant
    (c.in_ok-push_box.ensures ∙ ap (λ z. old ++ box_text z) c.unit_box.ensures)

pub returns : goal.returns
unfolding boxes_text
returns c =
    let all = ap length (c.units-unit-end.ensures.units ∙ ap (λ z. z.units) c.arch.ensures) in
    let last : c.loop-unit.unit ≡ length c.args.layout.now.units = omega (arith, all) in
    ended (box_part c.args.layout.now) _ _ _ _ c.loop-unit.invariant last
