use Rattle.std.proofs.Common.{◌≡◌, length, ap, ◌*◌, subst, arith}
use Rattle.cg_mrrg.specs.Lists.{AreParts}
use Rattle.cg_mrrg.specs.Nodes.{into}
use Rattle.cg_mrrg.proofs.Numbers.{into_is, no_nodes, node_added, resource_added}
use Rattle.cg_mrrg.proofs.graph.links_into.Goals as goal

pub loop-resource-init : goal.loop-resource-init
loop-resource-init c = let part = into c.args.arch.now c.args.interval in no_nodes part c.args.interval _ _ (c.in_ok-lists.ensures part)

pub loop-slot-preserved : goal.loop-slot-preserved
loop-slot-preserved c =
    let part = into c.args.arch.now c.args.interval in
    node_added part c.args.interval c.loop-resource.resource c.loop-slot.slot c.loop-slot.lists.links.items c.add_drivers.new.lists.links.items _ c.loop-slot.lists.starts.items c.add_drivers.new.lists.starts.items
    (into_is c.args.arch.now c.args.interval c.loop-resource.resource c.loop-slot.slot c.loop-slot-test.true) c.in_ok-add_drivers.ensures.links c.in_ok-add_drivers.ensures.starts c.loop-slot.invariant

pub loop-resource-preserved : goal.loop-resource-preserved
loop-resource-preserved c =
    resource_added (into c.args.arch.now c.args.interval) c.args.interval c.loop-resource.resource c.loop-slot.slot c.loop-slot.lists.links.items c.loop-slot.lists.starts.items (omega arith) c.loop-slot.invariant

pub returns : goal.returns
returns c =
    let long : length c.resources-resource-end.result.now ≡ length c.args.arch.now.resources = ap length c.resources-resource-end.ensures.resources in
    let e : c.loop-resource.resource ≡ length c.args.arch.now.resources = omega arith in
    subst (λ z. AreParts (into c.args.arch.now c.args.interval) (z * c.args.interval) c.loop-resource.lists.links.items c.loop-resource.lists.starts.items) e c.loop-resource.invariant
