use Rattle.std.proofs.Common.{arith}
use Rattle.cg_model.specs.Kernel.{size}
use Rattle.cg_recur.proofs.Listed.{order_added, all_edges, order_count}
use Rattle.cg_recur.proofs.list.add_order.Goals as goal

pub loop-number-preserved : goal.loop-number-preserved
loop-number-preserved c =
    order_added c.args.arch.now c.args.kernel.now (size c.args.kernel.now) c.loop-number.number c.loop-number.list.names.items c.add_edge.new.list.names.items c.loop-number.list.edges.items c.add_edge.new.list.edges.items c.loop-number.invariant c.in_ok-add_edge.ensures

pub returns : goal.returns
returns c =
    let count = order_count c.args.kernel.now c.order-order.result.now c.order-order.ensures.order in
    all_edges c.args.arch.now c.args.kernel.now (size c.args.kernel.now) c.loop-number.number c.loop-number.list.names.items c.loop-number.list.edges.items (omega arith) (omega arith) c.loop-number.invariant
