use Rattle.std.proofs.Common.{◌≡◌, ◌-◌, ◌+◌, ◌<◌, length, subst, arith}
use Rattle.cg_bound_flow.specs.Reach.{IsFollowed}
use Rattle.cg_bound_flow.proofs.Logs.{read, follow_begins, follow_more}
use Rattle.cg_bound_flow.proofs.reach.follow.Goals as goal

pub loop-more-init : goal.loop-more-init
loop-more-init c =
    let p = c.requires.chain.places in
    let inside : c.args.place < length c.args.chain.now.last.items = let l = c.requires.place in omega arith in
    follow_begins c.args.residual.network.links.now c.args.residual.flow.now c.args.residual.potentials.now c.args.residual.count c.args.place c.index-more.result.now c.args.chain.now c.args.reached.now.steps.items c.args.reached.now.order.items c.requires.log c.requires.chain
    (read c.args.chain.now.last.items c.args.place c.index-more.result.now 0 inside c.index-more.ensures)

pub loop-more-preserved : goal.loop-more-preserved
loop-more-preserved c =
    let m = c.loop-more.more in
    let t = c.loop-more-test.true in
    let e : m ≡ (m - 1) + 1 = omega arith in
    let w = c.loop-more.invariant.within in
    let a = c.requires.chain.each in
    let inside : m - 1 < length c.args.chain.now.earlier.items = omega arith in
    follow_more c.args.residual.network.links.now c.args.residual.flow.now c.args.residual.potentials.now c.args.residual.count c.args.place m (m - 1) c.index-more-in-loop-more.result.now c.args.chain.now _ _ _ _ _ _ c.requires.chain
    c.loop-more.invariant e c.in_ok-visit.ensures (read c.args.chain.now.earlier.items (m - 1) c.index-more-in-loop-more.result.now 0 inside c.index-more-in-loop-more.ensures)

pub returns : goal.returns
returns c =
    let t = c.loop-more-test.false in
    let e : c.loop-more.more ≡ 0 = omega arith in
    subst (λ z. IsFollowed c.args.residual.network.links.now c.args.residual.count c.args.residual.flow.now c.args.residual.potentials.now c.args.chain.now c.args.place c.args.reached.now.steps.items c.args.reached.now.order.items c.loop-more.reached.steps.items c.loop-more.reached.order.items z) e c.loop-more.invariant
