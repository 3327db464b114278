use Rattle.std.proofs.Common.{arith}
use Rattle.cg_recur.proofs.Listed.{arg_added, next_node, operands_count}
use Rattle.cg_recur.proofs.list.add_operands.Goals as goal

pub loop-arg-preserved : goal.loop-arg-preserved
loop-arg-preserved c =
    arg_added c.args.arch.now c.args.kernel.now c.args.node c.loop-arg.arg c.loop-arg.list.names.items c.add_edge.new.list.names.items c.loop-arg.list.edges.items c.add_edge.new.list.edges.items c.loop-arg.invariant c.in_ok-add_edge.ensures

pub returns : goal.returns
returns c =
    let count = operands_count c.args.kernel.now c.index-nodes-node.result c.nodes.result.now c.as_slice-count.result.now c.args.node c.nodes.ensures.nodes c.requires.node c.index-nodes-node.is c.as_slice-count.ensures in
    next_node c.args.arch.now c.args.kernel.now c.args.node c.loop-arg.arg c.loop-arg.list.names.items c.loop-arg.list.edges.items (omega arith) c.loop-arg.invariant
