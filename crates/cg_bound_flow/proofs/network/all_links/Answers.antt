use Rattle.std.proofs.Common.{length, ap, arith}
use Rattle.cg_bound_registers.specs.Sums.{table}
use Rattle.cg_bound_flow.proofs.Standing.{begun_more, begun_all, ordered_more, finished}
use Rattle.cg_bound_flow.proofs.network.all_links.Goals as goal

pub loop-w-preserved : goal.loop-w-preserved
loop-w-preserved c =
    begun_more c.args.instance.arch.now c.args.instance.kernel.now (table c.args.instance.hops.now) c.args.instance.ii c.loop-w.w c.loop-w.links.items c.add_node.new.links.items c.add_data.new.links.items c.add_data-in-loop-w.new.links.items c.add_data-in-loop-w-2.new.links.items
    c.loop-w.invariant c.in_ok-add_node.ensures.grown c.in_ok-add_node.ensures.has c.in_ok-add_node.ensures.longer
    c.in_ok-add_data.ensures.grown c.in_ok-add_data.ensures.has c.in_ok-add_data.ensures.longer
    c.in_ok-add_data-2.ensures.grown c.in_ok-add_data-2.ensures.has c.in_ok-add_data-2.ensures.longer
    c.in_ok-add_data-3.ensures.grown c.in_ok-add_data-3.ensures.has c.in_ok-add_data-3.ensures.longer

pub loop-e-init : goal.loop-e-init
loop-e-init c =
    let e = ap length c.nodes.ensures.nodes in
    let f = c.nodes.ensures.valid.few in
    begun_all c.args.instance.arch.now c.args.instance.kernel.now (table c.args.instance.hops.now) c.args.instance.ii c.nodes.ensures.valid c.loop-w.w c.loop-w.links.items (let a = c.loop-w-test.false in let b = c.loop-w.auto.w-end in omega arith) c.loop-w.invariant

pub loop-e-preserved : goal.loop-e-preserved
loop-e-preserved c =
    ordered_more c.args.instance.arch.now c.args.instance.kernel.now (table c.args.instance.hops.now) c.args.instance.ii c.loop-e.e c.loop-e.links.items c.add_order.new.links.items c.loop-e.invariant c.in_ok-add_order.ensures.grown c.in_ok-add_order.ensures.has c.in_ok-add_order.ensures.longer

pub returns : goal.returns
returns c =
    let e = ap length c.order.ensures.order in
    let f = c.order.ensures.valid.order.few in
    finished c.args.instance.arch.now c.args.instance.kernel.now (table c.args.instance.hops.now) c.args.instance.ii c.order.ensures.valid c.loop-e.e c.loop-e.links.items (let a = c.loop-e-test.false in let b = c.loop-e.auto.e-end in omega arith) c.loop-e.invariant
