use Rattle.std.proofs.Common.{arith}
use Rattle.cg_loop.proofs.Costs.{body_cost_step}
use Rattle.cg_loop.proofs.cost.body_cost.Goals as goal

pub loop-stmt-preserved : goal.loop-stmt-preserved
loop-stmt-preserved c =
    let s = body_cost_step c.args.stmts.now c.loop-stmt.stmt-index c.stmt-item.result c.loop-stmt-test.true c.stmt-item.is in
    omega arith
