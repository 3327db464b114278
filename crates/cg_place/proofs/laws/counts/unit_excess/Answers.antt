use Rattle.std.proofs.Common.{arith}
use Rattle.cg_place.specs.Counts.{excess_on}
use Rattle.cg_place.proofs.laws.counts.unit_excess.Goals as goal
use Rattle.cg_model.proofs.Ranges.{sum_more}

pub loop-unit-preserved : goal.loop-unit-preserved
loop-unit-preserved c =
    let more = sum_more (excess_on c.args.ii c.args.places.now) c.loop-unit.unit in
    let here = c.excess_on-excess.ensures.value in
    (omega (arith, more, here), omega arith)
