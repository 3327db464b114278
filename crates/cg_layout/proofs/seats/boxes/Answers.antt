use Rattle.std.proofs.Common.{◌≡◌, ◌∙◌, ◌∷◌, [], ◌++◌, sym, ap, length, arith}
use Rattle.cg_layout.specs.Layout.{box}
use Rattle.cg_list_laws.proofs.Grown.{begun, grown_alone}
use Rattle.cg_layout.proofs.Listed.{boxes_listed}
use Rattle.cg_layout.proofs.seats.boxes.Goals as goal

pub loop-unit-init : goal.loop-unit-init
loop-unit-init c = c.new-spots.ensures.items ∙ sym (begun (λ x. box c.args.tiled.now c.args.frame x ∷ []))

pub loop-unit-preserved : goal.loop-unit-preserved
loop-unit-preserved c =
    grown_alone (λ x. box c.args.tiled.now c.args.frame x ∷ []) c.loop-unit.unit _ _ c.loop-unit.invariant
    (c.in_ok-push.ensures.items ∙ ap (λ z. c.loop-unit.spots.items ++ z ∷ []) c.unit_box.ensures)

pub returns : goal.returns
returns c =
    let all : c.loop-unit.unit ≡ length c.args.tiled.now.units = omega (arith, c.unit_count-unit-end.ensures.value) in
    boxes_listed c.args.tiled.now c.args.frame c.loop-unit.unit c.loop-unit.spots.items all c.loop-unit.invariant
