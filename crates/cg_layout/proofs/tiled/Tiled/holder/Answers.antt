use Rattle.std.proofs.Common.{◌≡◌, ◌∙◌, sym, ap, arith, length}
use Rattle.std.specs.Prelude.{unwrap_or}
use Rattle.cg_model.specs.First.{first_from}
use Rattle.cg_layout.specs.Layout.{holds}
use Rattle.cg_layout.proofs.Found.{first_begun, first_missed, first_met, first_missing}
use Rattle.cg_layout.proofs.tiled.Tiled.holder.Goals as goal

pub loop-number-init : goal.loop-number-init
loop-number-init c = first_begun (λ x u. holds c.args.resource u) c.units-unit-items.result.now

pub returns-then-holds-clause-value : goal.returns-then-holds-clause-value
returns-then-holds-clause-value c =
    let t = ap (holds c.args.resource) (sym c.unit-item.is) ∙ sym c.holds.ensures ∙ c.if-holds.true in
    let units = c.units-unit-items.ensures.units ∙ ap (λ z. z.units) c.arch.ensures in
    sym (ap (λ z. unwrap_or z 0) (first_met (λ x u. holds c.args.resource u) c.units-unit-items.result.now c.loop-number.number c.unit-item.result _ c.loop-number-test.true t c.loop-number.invariant))
    ∙ ap (λ z. unwrap_or (first_from (λ x u. holds c.args.resource u) 0 z) 0) units

pub loop-number-preserved : goal.loop-number-preserved
loop-number-preserved c =
    let t = ap (holds c.args.resource) (sym c.unit-item.is) ∙ sym c.holds.ensures ∙ c.if-holds.false in
    first_missed (λ x u. holds c.args.resource u) c.units-unit-items.result.now c.loop-number.number c.unit-item.result _ c.loop-number-test.true t c.loop-number.invariant

pub returns-clause-value : goal.returns-clause-value
returns-clause-value c =
    let all : c.loop-number.number ≡ length c.units-unit-items.result.now = omega arith in
    let units = c.units-unit-items.ensures.units ∙ ap (λ z. z.units) c.arch.ensures in
    sym (ap (λ z. unwrap_or z 0) (first_missing (λ x u. holds c.args.resource u) c.units-unit-items.result.now c.loop-number.number _ all c.loop-number.invariant))
    ∙ ap (λ z. unwrap_or (first_from (λ x u. holds c.args.resource u) 0 z) 0) units
