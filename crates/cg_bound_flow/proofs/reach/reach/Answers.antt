use Rattle.std.proofs.Common.{arith}
use Rattle.cg_bound_flow.proofs.Logs.{few_steps, spread_more, spread_closed}
use Rattle.cg_bound_flow.proofs.reach.reach.Goals as goal

pub loop-done-smaller : goal.loop-done-smaller
loop-done-smaller c =
    let f = few_steps c.args.residual.network.links.now c.args.residual.flow.now c.args.residual.potentials.now c.loop-done.reached.steps.items c.loop-done.reached.order.items c.loop-done.invariant.log in
    let b = c.len.ensures in
    let t = c.loop-done-test.true in
    omega arith

pub loop-done-preserved : goal.loop-done-preserved
loop-done-preserved c =
    let t = c.loop-done-test.true in
    spread_more c.args.residual.network.links.now c.args.residual.flow.now c.args.residual.potentials.now c.args.residual.count c.args.terminals.start c.loop-done.done _ _ _ _ c.loop-done.invariant (omega arith) c.in_ok-spread.ensures.log c.in_ok-spread.ensures.longer c.in_ok-spread.ensures.worked

pub returns : goal.returns
returns c =
    let t = c.loop-done-test.false in
    record {
      log = c.loop-done.invariant.log;
      some = c.loop-done.invariant.some;
      first = c.loop-done.invariant.first;
      closed = λ q. spread_closed c.args.residual.network.links.now c.args.residual.flow.now c.args.residual.potentials.now c.args.residual.count c.args.terminals.start c.loop-done.done _ _ c.loop-done.invariant (omega arith) c.requires.known;
    }
