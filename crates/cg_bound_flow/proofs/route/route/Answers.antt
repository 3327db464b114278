use Rattle.std.proofs.Common.{◌≡◌, ℕ, ◌+◌, ◌-◌, List, Option, None, length, ap, subst, arith}
use Rattle.cg_bound_flow.specs.declared.reach.Reached.{Reached}
use Rattle.cg_bound_flow.specs.Lift.{IsLifted}
use Rattle.cg_bound_flow.proofs.Logs.{read}
use Rattle.cg_bound_flow.proofs.Routes.{never}
use Rattle.cg_bound_flow.proofs.route.route.Goals as goal

pub overflow_sub-need : goal.overflow_sub-need
overflow_sub-need c =
    let a = read c.args.potentials.now.items c.args.terminals.goal c.index.result.now 0 c.requires.goal c.index.ensures in
    let b = read c.args.potentials.now.items c.args.terminals.start c.index-2.result.now 0 c.requires.start c.index-2.ensures in
    let s = c.requires.spans c.args.flow.now.items c.args.potentials.now.items c.requires.kept in
    omega arith

pub overflow_add-need : goal.overflow_add-need
overflow_add-need c =
    let a = read c.args.potentials.now.items c.args.terminals.goal c.index.result.now 0 c.requires.goal c.index.ensures in
    let t = c.requires.times c.args.terminals.goal in
    omega arith

pub lift-requires-clause-near : goal.lift-requires-clause-near
lift-requires-clause-near c =
    let a = read c.args.potentials.now.items c.args.terminals.goal c.index.result.now 0 c.requires.goal c.index.ensures in
    let b = read c.args.potentials.now.items c.args.terminals.start c.index-2.result.now 0 c.requires.start c.index-2.ensures in
    let s = c.requires.spans c.args.flow.now.items c.args.potentials.now.items c.requires.kept in
    omega arith

pub unreachable-requires : goal.unreachable-requires
unreachable-requires c =
    let a = read c.args.potentials.now.items c.args.terminals.goal c.index.result.now 0 c.requires.goal c.index.ensures in
    let b = read c.args.potentials.now.items c.args.terminals.start c.index-2.result.now 0 c.requires.start c.index-2.ensures in
    let need = c.index.result.now - c.index-2.result.now + 1 in
    let l : IsLifted c.args.network.links.now (length c.args.network.links.now) c.deref.result.now c.args.potentials.now.items c.args.terminals.start c.args.terminals.goal need c.lift.new.potentials.items c.in_ok-lift.field-0 = c.in_ok-lift.ensures in
    let l' : IsLifted c.args.network.links.now (length c.args.network.links.now) c.args.flow.now.items c.args.potentials.now.items c.args.terminals.start c.args.terminals.goal need c.lift.new.potentials.items c.in_ok-lift.field-0 =
    subst (λ (z : List ℕ). IsLifted c.args.network.links.now (length c.args.network.links.now) z c.args.potentials.now.items c.args.terminals.start c.args.terminals.goal need c.lift.new.potentials.items c.in_ok-lift.field-0) c.deref.ensures.value l in
    never c.args.network.links.now c.args.flow.now.items c.args.potentials.now.items c.args.terminals.start c.args.terminals.goal need c.lift.new.potentials.items (omega arith) c.requires.kept c.requires.spans
    (subst (λ (o : Option Reached). IsLifted c.args.network.links.now (length c.args.network.links.now) c.args.flow.now.items c.args.potentials.now.items c.args.terminals.start c.args.terminals.goal need c.lift.new.potentials.items o) c.in-None.is l')
