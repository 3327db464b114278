use Rattle.std.proofs.Common.{◌≡◌, ◌<◌, ap, subst, arith}
use Rattle.std.specs.Prelude.{slice_index}
use Rattle.cg_bound_flow.specs.declared.reach.Step.{Step}
use Rattle.cg_bound_flow.specs.Reach.{step, no_step, IsWorked}
use Rattle.cg_bound_flow.proofs.Logs.{read, placed, worked_both}
use Rattle.cg_bound_flow.proofs.reach.spread.Goals as goal

pub follow-requires-clause-place : goal.follow-requires-clause-place
follow-requires-clause-place c =
    placed c.args.residual.network.links.now c.args.residual.flow.now c.args.residual.potentials.now c.args.reached.now.steps.items c.args.reached.now.order.items c.args.i c.index.result.now c.requires.log c.requires.step (read c.args.reached.now.steps.items c.args.i c.index.result.now no_step c.requires.step c.index.ensures)

pub follow-requires-2-clause-place : goal.follow-requires-2-clause-place
follow-requires-2-clause-place c =
    placed c.args.residual.network.links.now c.args.residual.flow.now c.args.residual.potentials.now c.args.reached.now.steps.items c.args.reached.now.order.items c.args.i c.index.result.now c.requires.log c.requires.step (read c.args.reached.now.steps.items c.args.i c.index.result.now no_step c.requires.step c.index.ensures)

pub returns-clause-worked : goal.returns-clause-worked
returns-clause-worked c =
    let steps = c.args.reached.now.steps.items in
    let order = c.args.reached.now.order.items in
    let e : c.index.result.now ≡ step steps c.args.i = read steps c.args.i c.index.result.now no_step c.requires.step c.index.ensures in
    let m = c.requires.log.marks c.args.i c.requires.step in
    let q = ap (λ (z : Step). slice_index order z.place) e in
    let some : 0 < slice_index order c.index.result.now.place = omega arith in
    subst (λ (z : Step). IsWorked c.args.residual.network.links.now c.args.residual.count c.args.residual.flow.now c.args.residual.potentials.now c.follow-2.new.reached.order.items z.place) e
    (worked_both c.args.residual.network.links.now c.args.residual.flow.now c.args.residual.potentials.now c.args.residual.count c.index.result.now.place c.args.residual.network.incidence.now steps order c.follow.new.reached.steps.items c.follow.new.reached.order.items c.follow-2.new.reached.steps.items c.follow-2.new.reached.order.items
    c.requires.incidence some c.in_ok-follow.ensures c.in_ok-follow-2.ensures)
