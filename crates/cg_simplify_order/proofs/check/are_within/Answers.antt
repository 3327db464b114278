use Rattle.std.proofs.Common.{below_more}
use Rattle.cg_model.specs.declared.kernel.OrderEdge.{OrderEdge}
use Rattle.cg_depend.specs.Depend.{Within}
use Rattle.cg_simplify_order.proofs.Listed.{at_each}
use Rattle.cg_simplify_order.proofs.check.are_within.Goals as goal

pub loop-number-preserved : goal.loop-number-preserved
loop-number-preserved c = below_more _ _ c.loop-number.invariant (c.is_within.ensures.0 c.if-not-is_within.false)

pub returns : goal.returns
returns c = λ t. at_each (λ (e : OrderEdge). Within c.args.table.now e.from e.to e.distance) c.args.needs.now c.loop-number.number c.loop-number-test.false c.loop-number.invariant
