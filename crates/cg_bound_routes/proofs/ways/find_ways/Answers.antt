use Rattle.std.proofs.Common.{◌≡◌, length, sym, ap, subst, arith}
use Rattle.cg_model.specs.Kernel.{Kernel, size}
use Rattle.cg_bound_routes.specs.Ways.{AreWays, AreSmall}
use Rattle.cg_bound_routes.proofs.Rows.{rows_ways, rows_small}
use Rattle.cg_bound_routes.proofs.ways.find_ways.Goals as goal

pub returns-clause-ways : goal.returns-clause-ways
returns-clause-ways c =
    let K : Kernel = c.args.kernel.now in
    let long : length c.nodes-node-end.result.now ≡ size K = ap length c.nodes-node-end.ensures.nodes in
    subst (AreWays c.args.arch.now K c.args.ii) (sym c.new.ensures) (rows_ways c.args.arch.now K c.args.ii c.loop-node.node c.loop-node.rows.items c.loop-node.invariant.rows (omega arith))

pub returns-clause-small : goal.returns-clause-small
returns-clause-small c =
    let K : Kernel = c.args.kernel.now in
    let long : length c.nodes-node-end.result.now ≡ size K = ap length c.nodes-node-end.ensures.nodes in
    subst (AreSmall (length c.args.arch.now.resources)) (sym c.new.ensures) (rows_small c.args.arch.now K c.args.ii c.loop-node.node c.loop-node.rows.items c.loop-node.invariant.rows (omega arith))
