use Rattle.std.proofs.Common.{◌≡◌, sym, ap, arith, eqb, length}
use Rattle.std.specs.Prelude.{unwrap_or}
use Rattle.std.proofs.lemmas.Bool.{eq-eqb, ne_eqb}
use Rattle.cg_layout.proofs.Found.{first_begun, first_missed, first_met, first_missing}
use Rattle.cg_layout.proofs.tiled.number_of.Goals as goal

pub loop-number-init : goal.loop-number-init
loop-number-init c = first_begun (λ p q. eqb q c.args.resource) c.args.ports.now

pub returns-then-port-resource-clause-value : goal.returns-then-port-resource-clause-value
returns-then-port-resource-clause-value c =
    sym (ap (λ z. unwrap_or z 0) (first_met (λ p q. eqb q c.args.resource) c.args.ports.now c.loop-number.number 0 _ c.loop-number-test.true (eq-eqb _ _ c.if-port-resource.true) c.loop-number.invariant))

pub loop-number-preserved : goal.loop-number-preserved
loop-number-preserved c =
    first_missed (λ p q. eqb q c.args.resource) c.args.ports.now c.loop-number.number 0 _ c.loop-number-test.true (ne_eqb _ _ c.if-port-resource.false) c.loop-number.invariant

pub returns-clause-value : goal.returns-clause-value
returns-clause-value c =
    let all : c.loop-number.number ≡ length c.args.ports.now = omega arith in
    sym (ap (λ z. unwrap_or z 0) (first_missing (λ p q. eqb q c.args.resource) c.args.ports.now c.loop-number.number _ all c.loop-number.invariant))
