use Rattle.std.proofs.Common.{sym, ◌∙◌, arith}
use Rattle.std.proofs.Math.Nat.{le-max_left}
use Rattle.std.proofs.lemmas.Bool.{cond-true, cond-false}
use Rattle.cg_word.specs.Sets.{among}
use Rattle.cg_bound_registers.proofs.Latencies.{most_from_one, most_all, most_more}
use Rattle.cg_bound_registers.proofs.counts.most_latency.Goals as goal
use Rattle.cg_bound_registers.proofs.counts.most_latency.Goals.{then-has, else-has}

pub loop-unit-init : goal.loop-unit-init
loop-unit-init c = (most_from_one c.args.op c.args.arch.now.units, omega arith)

pub loop-unit-preserved : goal.loop-unit-preserved
loop-unit-preserved c =
    elim c.if-has.branch [
      | then-has w ↦ (
        most_more c.args.op c.args.arch.now.units c.units-unit-items.result.now c.loop-unit.unit-index c.loop-unit.most c.if-has.most _ c.unit-item.result c.units-unit-items.ensures.units c.loop-unit-test.true c.unit-item.is c.loop-unit.invariant.0
            (w.most-is ∙ w.greater-most.ensures ∙ sym (cond-true (among c.unit-item.result.ops c.args.op) _ _ (sym c.has.ensures ∙ w.if-has.true))),
        (let m = w.greater-most.ensures in let n = le-max_left c.loop-unit.most c.unit-item.result.latency in omega arith),
      )
      | else-has w ↦ (
        most_more c.args.op c.args.arch.now.units c.units-unit-items.result.now c.loop-unit.unit-index c.loop-unit.most c.if-has.most _ c.unit-item.result c.units-unit-items.ensures.units c.loop-unit-test.true c.unit-item.is c.loop-unit.invariant.0
            (w.most-is ∙ sym (cond-false (among c.unit-item.result.ops c.args.op) _ _ (sym c.has.ensures ∙ w.if-has.false))),
        omega arith,
      )
    ]

pub returns : goal.returns
returns c = most_all c.args.op c.args.arch.now.units c.units-unit-items.result.now c.loop-unit.unit-index c.loop-unit.most _ c.units-unit-items.ensures.units c.loop-unit-test.false c.loop-unit.invariant.1 c.loop-unit.invariant.0
