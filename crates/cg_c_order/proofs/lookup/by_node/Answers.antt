use Rattle.std.proofs.Common.{rules}
use Rattle.cg_c_order.proofs.Wanted.{by_node_more}
use Rattle.cg_c_order.proofs.lookup.by_node.Goals as goal

pub loop-node-preserved : goal.loop-node-preserved
loop-node-preserved c = search (rules, by_node_more)
