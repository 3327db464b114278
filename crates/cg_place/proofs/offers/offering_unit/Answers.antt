use Rattle.std.proofs.Common.{◌∙◌, length, sym, ap, arith}
use Rattle.cg_place.proofs.Offering.{counted, passed, found}
use Rattle.cg_place.proofs.offers.offering_unit.Goals as goal
use Rattle.cg_place.proofs.offers.offering_unit.Goals.{then-offers+else-passed-place, else-offers}

pub returns-then-passed-place-clause-value : goal.returns-then-passed-place-clause-value
returns-then-passed-place-clause-value c =
    found c.args.arch.now c.args.op c.loop-x.x c.args.place (omega (arith, ap length c.units-x-end.ensures.units)) (omega arith) (sym c.offers.ensures ∙ c.if-offers.true)

pub loop-x-preserved : goal.loop-x-preserved
loop-x-preserved c =
    let A = c.args.arch.now in
    let x = c.loop-x.x in
    elim c.if-offers.branch [
      | then-offers+else-passed-place w ↦ let e = counted A c.args.op x (sym c.offers.ensures ∙ w.if-offers.true) in (omega arith, omega arith)
      | else-offers w ↦ let e = passed A c.args.op x (sym c.offers.ensures ∙ w.if-offers.false) in (omega arith, omega arith)
    ]
