use Rattle.std.proofs.Common.{◌≡◌, length, ap, arith}
use Rattle.cg_model.specs.Kernel.{Kernel, size}
use Rattle.cg_bound_routes.proofs.Tables.{first_missing, none_below_more, all_there}
use Rattle.cg_bound_routes.proofs.missing.first_without_way.Goals as goal

pub returns-in-Some-clause-some : goal.returns-in-Some-clause-some
returns-in-Some-clause-some c =
    first_missing c.args.kernel.now c.args.ways.now (record { node = c.loop-node.node; arg = c.in-Some.arg }) c.loop-node.invariant c.in-Some.ensures

pub loop-node-preserved : goal.loop-node-preserved
loop-node-preserved c = none_below_more c.args.kernel.now c.args.ways.now c.loop-node.node c.loop-node.invariant c.in_default.ensures

pub returns-clause-none : goal.returns-clause-none
returns-clause-none c =
    let K : Kernel = c.args.kernel.now in
    let long : length c.nodes.result.now ≡ size K = ap length c.nodes.ensures.nodes in
    all_there K c.args.ways.now c.loop-node.node c.loop-node.invariant (omega arith)
