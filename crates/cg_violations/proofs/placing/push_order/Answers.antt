use Rattle.cg_violations.specs.Violations.{order_violation}
use Rattle.cg_list_laws.proofs.Grown.{grown, unbegun}
use Rattle.cg_violations.proofs.placing.push_order.Goals as goal

pub loop-edge-init : goal.loop-edge-init
loop-edge-init c = unbegun (order_violation c.args.kernel.now c.args.mapping.now) c.args.found.now.items

pub loop-edge-preserved : goal.loop-edge-preserved
loop-edge-preserved c =
    grown (order_violation c.args.kernel.now c.args.mapping.now) c.loop-edge.edge c.args.found.now.items c.loop-edge.found.items c.push_edge.new.found.items c.loop-edge.invariant c.in_ok-push_edge.ensures
