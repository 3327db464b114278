use Rattle.std.proofs.Common.{rules}
use Rattle.cg_c_order.specs.Chains.{data_edges}
use Rattle.cg_c_order.proofs.Data.{data_step}
use Rattle.cg_c_order.proofs.edges.data_edges.Goals as goal

pub loop-to-preserved : goal.loop-to-preserved
loop-to-preserved c =
    data_step c.args.nodes.now c.loop-to.to c.loop-to.edges.items c.add_edges.new.edges.items c.index-nodes-to.result c.as_slice.result.now c.loop-to-test.true c.as_slice.ensures c.loop-to.invariant
    c.in_ok-add_edges.ensures

pub returns : goal.returns
unfolding data_edges
returns c = search (rules)
