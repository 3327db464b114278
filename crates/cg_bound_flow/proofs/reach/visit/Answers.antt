use Rattle.std.proofs.Common.{arith, ◌<◌, length}
use Rattle.cg_bound_flow.specs.Network.{link}
use Rattle.cg_bound_flow.proofs.Logs.{read, visited_forth, visited_back, visited_none}
use Rattle.cg_bound_flow.proofs.reach.visit.Goals as goal

pub returns-then-k-count : goal.returns-then-k-count
returns-then-k-count c = let h = c.if-k-count.true in visited_none c.args.residual.network.links.now c.args.residual.flow.now c.args.residual.potentials.now c.args.reached.now.steps.items c.args.reached.now.order.items c.args.k c.args.residual.count c.requires.log (λ l. absurd (omega arith))

pub returns-in_ok-push : goal.returns-in_ok-push
returns-in_ok-push c =
    let g = c.requires.graph in
    let e = c.requires.log.each in
    let t = g.to c.args.k c.requires.known in
    let f = g.from c.args.k c.requires.known in
    let lt : (link c.args.residual.network.links.now c.args.k).to < length c.args.reached.now.order.items = omega arith in
    let lf : (link c.args.residual.network.links.now c.args.k).from < length c.args.reached.now.order.items = omega arith in
    visited_forth c.args.residual.network.links.now c.args.residual.flow.now c.args.residual.potentials.now c.args.reached.now.steps.items c.args.reached.now.order.items c.args.k c.len-next.result c.args.residual.count c.index-from.result.now c.index-to.result.now c.push.new.self.items c.requires.log c.requires.known c.if-potentials-link.true
    (read c.args.reached.now.order.items (link c.args.residual.network.links.now c.args.k).from c.index-from.result.now 0 lf c.index-from.ensures) (read c.args.reached.now.order.items (link c.args.residual.network.links.now c.args.k).to c.index-to.result.now 0 lt c.index-to.ensures)
    c.if-from-gt0.true c.if-to-eq0.true lt (let d = c.args.reached.now.steps.ok.0 in let q = c.len-next.ensures in omega arith) c.in_ok-push.ensures.items

pub returns-in_ok-push-2 : goal.returns-in_ok-push-2
returns-in_ok-push-2 c =
    let g = c.requires.graph in
    let e = c.requires.log.each in
    let t = g.to c.args.k c.requires.known in
    let f = g.from c.args.k c.requires.known in
    let lt : (link c.args.residual.network.links.now c.args.k).to < length c.args.reached.now.order.items = omega arith in
    let lf : (link c.args.residual.network.links.now c.args.k).from < length c.args.reached.now.order.items = omega arith in
    visited_back c.args.residual.network.links.now c.args.residual.flow.now c.args.residual.potentials.now c.args.reached.now.steps.items c.args.reached.now.order.items c.args.k c.len-next.result c.args.residual.count c.index-from.result.now c.index-to.result.now c.push-then-flow-k-gt0.new.self.items c.requires.log c.requires.known c.if-potentials-link.true
    (read c.args.reached.now.order.items (link c.args.residual.network.links.now c.args.k).from c.index-from.result.now 0 lf c.index-from.ensures) (read c.args.reached.now.order.items (link c.args.residual.network.links.now c.args.k).to c.index-to.result.now 0 lt c.index-to.ensures)
    c.if-to-gt0.true c.if-from-eq0.true lf c.if-flow-k-gt0.true (let d = c.args.reached.now.steps.ok.0 in let q = c.len-next.ensures in omega arith) c.in_ok-push-2.ensures.items
