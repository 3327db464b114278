use Rattle.std.proofs.Common.{◌≡◌, ◌∙◌, ◌++◌, ◌<◌, length, take, sym, ap, arith}
use Rattle.cg_walk_spec.specs.State.{edges, routes_by}
use Rattle.cg_walk_spec.specs.Walk.{edge}
use Rattle.cg_anneal.specs.Walking.{Walking}
use Rattle.cg_anneal.specs.Steps.{route_of}
use Rattle.cg_anneal.proofs.Takes.{taken_next, route_next, routes_by_more}
use Rattle.cg_anneal.proofs.walk.Walk.take_routes.Goals as goal

pub loop-i-preserved : goal.loop-i-preserved
loop-i-preserved c =
    let W = c.args.self.now in
    let V = c.loop-i.self in
    let k = c.loop-i.i in
    let t = c.loop-i-test.true in
    let n = c.count-i-end.ensures in
    let l : k < length (edges W.kernel) = omega (arith, t, n) in
    let now = c.loop-i.invariant.now in
    let e = c.operand-edge.result in
    let r = c.take-route.result in
    let before = routes_by (take k (edges W.kernel)) (take k W.state.routes) in
    let he : e ≡ edge W.kernel k = c.operand-edge.ensures ∙ ap (λ (X : Walking). edge X.kernel k) now in
    let hr = c.take-route.ensures.route ∙ route_next W V k l now in
    record {
      now = taken_next W V k l now c.take-route.new.self c.take-route.ensures.new;
      routes =
          c.in_ok-add_route.ensures ∙ ap (λ xs. xs ++ route_of e r) c.loop-i.invariant.routes ∙ ap (λ x. before ++ route_of x r) he ∙ ap (λ y. before ++ route_of (edge W.kernel k) y) hr
          ∙ sym (routes_by_more (edges W.kernel) W.state.routes k (record { node = 0; arg = 0; source = 0; distance = 0 }) l c.holds.ensures.good.routes);
    }
