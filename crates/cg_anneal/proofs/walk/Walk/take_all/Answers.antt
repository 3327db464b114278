use Rattle.std.proofs.Common.{◌∙◌, ◌<◌, length, get_or, map, None, sym, ap, subst}
use Rattle.std.proofs.lemmas.List.{take_all}
use Rattle.cg_walk_spec.specs.State.{edges}
use Rattle.cg_walk_spec.specs.Walk.{unrouted}
use Rattle.cg_anneal.specs.Walking.{Walking, at_state}
use Rattle.cg_anneal.proofs.Loops.{taken_more, route_taken, routes_more}
use Rattle.cg_anneal.proofs.walk.Walk.take_all.Goals as goal

pub take-route-requires : goal.take-route-requires
take-route-requires c =
    let k = c.loop-i.i-index in
    record { known = subst (λ (X : Walking). get_or c.args.list.now k 0 < length (edges X.kernel)) (sym c.loop-i.invariant.now) (c.requires.known k 0 c.loop-i-test.true) }

pub loop-i-preserved : goal.loop-i-preserved
loop-i-preserved c =
    let W = c.args.self.now in
    let V = c.loop-i.self in
    let list = c.args.list.now in
    let k = c.loop-i.i-index in
    let l = c.loop-i-test.true in
    record {
      now = taken_more W V c.take-route.new.self list k l c.loop-i.invariant.now c.take-route.ensures.new;
      routes =
          routes_more W.state.routes list k c.loop-i.routes.items c.push.new.self.items c.take-route.result l c.loop-i.invariant.routes c.in_ok-push.ensures.items
          (c.take-route.ensures.route ∙ route_taken W V list k l c.requires.rising c.loop-i.invariant.now);
    }

pub returns-clause-new : goal.returns-clause-new
returns-clause-new c =
    let W = c.args.self.now in
    c.loop-i.invariant.now ∙ ap (λ xs. at_state W (unrouted xs W.state)) (take_all c.loop-i.i-index c.args.list.now c.loop-i-test.false)

pub returns-clause-routes : goal.returns-clause-routes
returns-clause-routes c =
    let W = c.args.self.now in
    c.loop-i.invariant.routes ∙ ap (λ xs. map (λ i. get_or W.state.routes i None) xs) (take_all c.loop-i.i-index c.args.list.now c.loop-i-test.false)
