use Rattle.std.proofs.Common.{◌<◌, length, get_or, sym, subst}
use Rattle.std.proofs.lemmas.List.{take_all}
use Rattle.cg_walk_spec.specs.State.{edges}
use Rattle.cg_anneal.specs.Walking.{Walking, IsRoutedBy}
use Rattle.cg_anneal.proofs.Loops.{routed_none, routed_by_more, routed_pending, pending_here}
use Rattle.cg_anneal.proofs.walk.Walk.route_all.Goals as goal

pub loop-i-init : goal.loop-i-init
loop-i-init c = record { routed = routed_none c.args.self.now; pending = c.requires.pending }

pub route-requires-clause-known : goal.route-requires-clause-known
route-requires-clause-known c =
    let k = c.loop-i.i-index in
    subst (λ (X : Walking). get_or c.args.list.now k 0 < length (edges X.kernel)) (sym c.loop-i.invariant.routed.same) (c.requires.known k 0 c.loop-i-test.true)

pub route-requires-clause-none : goal.route-requires-clause-none
route-requires-clause-none c = pending_here c.args.list.now c.loop-i.i-index c.loop-i.self.state c.loop-i-test.true c.loop-i.invariant.pending

pub loop-i-preserved : goal.loop-i-preserved
loop-i-preserved c =
    let list = c.args.list.now in
    let k = c.loop-i.i-index in
    record {
      routed = routed_by_more c.args.self.now c.loop-i.self c.route.new.self list k c.loop-i-test.true c.loop-i.invariant.routed c.in_ok-route.ensures;
      pending = routed_pending c.loop-i.self c.route.new.self list k c.loop-i-test.true c.requires.rising c.loop-i.invariant.pending c.in_ok-route.ensures;
    }

pub returns : goal.returns
returns c = subst (λ xs. IsRoutedBy xs c.args.self.now c.loop-i.self) (take_all c.loop-i.i-index c.args.list.now c.loop-i-test.false) c.loop-i.invariant.routed
