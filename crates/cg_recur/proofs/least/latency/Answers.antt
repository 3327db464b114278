use Rattle.std.proofs.Common.{◌∙◌, sym}
use Rattle.cg_recur.proofs.Latencies.{least_none, unit_seen, unit_passed}
use Rattle.cg_recur.proofs.least.latency.Goals as goal
use Rattle.cg_recur.proofs.least.latency.Goals.{then-has, else-has}

pub loop-unit-init : goal.loop-unit-init
loop-unit-init c = least_none c.args.op

pub loop-unit-preserved : goal.loop-unit-preserved
loop-unit-preserved c =
    elim c.if-has.branch [
      | then-has w ↦
          w.least-is ∙ unit_seen c.args.op c.args.arch.now.units c.units-unit-items.result.now c.loop-unit.unit-index c.unit-item.result c.loop-unit.least w.lesser.result c.units-unit-items.ensures.units c.loop-unit-test.true c.unit-item.is c.loop-unit.invariant w.lesser.ensures (sym c.has.ensures ∙ w.if-has.true)
      | else-has w ↦
          w.least-is ∙ unit_passed c.args.op c.args.arch.now.units c.units-unit-items.result.now c.loop-unit.unit-index c.unit-item.result c.loop-unit.least c.units-unit-items.ensures.units c.loop-unit-test.true c.unit-item.is c.loop-unit.invariant (sym c.has.ensures ∙ w.if-has.false)
    ]
