use Rattle.cg_bound_flow.proofs.Pushes.{forth_as, back_as}
use Rattle.cg_bound_flow.proofs.push.push.Goals as goal

pub loop-i-preserved-then-step : goal.loop-i-preserved-then-step
loop-i-preserved-then-step c =
    back_as c.args.priced.links.now c.args.flow.now.items c.args.priced.potentials.now c.args.path.reached.now.steps.items c.args.path.reached.now.order.items c.requires.log c.args.path.goal c.args.by c.loop-i.i c.loop-i.flow.items c.index-step.result.now c.index_mut.result.now
    c.requires.flows c.loop-i.invariant c.loop-i-test.true c.index-step.ensures c.if-step.true c.index_mut.ensures.value c.requires.enough

pub loop-i-preserved : goal.loop-i-preserved
loop-i-preserved c =
    forth_as c.args.priced.links.now c.args.flow.now.items c.args.priced.potentials.now c.args.path.reached.now.steps.items c.args.path.reached.now.order.items c.requires.log c.args.path.goal c.args.by c.loop-i.i c.loop-i.flow.items c.index-step.result.now c.index_mut-else-step.result.now
    c.requires.flows c.loop-i.invariant c.loop-i-test.true c.index-step.ensures c.if-step.false c.index_mut-else-step.ensures.value
