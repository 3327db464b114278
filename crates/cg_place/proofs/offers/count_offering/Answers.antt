use Rattle.std.proofs.Common.{◌∙◌, sym, arith}
use Rattle.cg_place.proofs.Offering.{counted, passed}
use Rattle.cg_place.proofs.offers.count_offering.Goals as goal
use Rattle.cg_place.proofs.offers.count_offering.Goals.{then-offers, else-offers}

pub loop-x-preserved : goal.loop-x-preserved
loop-x-preserved c =
    let A = c.args.arch.now in
    let x = c.loop-x.x in
    elim c.if-offers.branch [
      | then-offers w ↦ let e = counted A c.args.op x (sym c.offers.ensures ∙ w.if-offers.true) in (omega arith, omega arith)
      | else-offers w ↦ let e = passed A c.args.op x (sym c.offers.ensures ∙ w.if-offers.false) in (omega arith, omega arith)
    ]
