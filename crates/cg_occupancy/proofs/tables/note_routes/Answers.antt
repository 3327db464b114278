use Rattle.std.proofs.Common.{◌≡◌, ◌+◌, ◌≤◌, List, [], ◌∙◌, sym, ap, subst, drop, length, arith}
use Rattle.std.specs.Prelude.{flat_map}
use Rattle.std.proofs.Math.ListN.{drop_of_length-le}
use Rattle.cg_model.specs.declared.mapping.Route.{Route}
use Rattle.cg_model.specs.Mapping.{positions, of_route}
use Rattle.cg_occupancy.specs.Tables.{with_positions}
use Rattle.cg_occupancy.proofs.Noted.{routes_step}
use Rattle.cg_occupancy.proofs.tables.note_routes.Goals as goal

pub loop-route-preserved : goal.loop-route-preserved
loop-route-preserved c =
    let m = c.args.legal.now in
    let ii = m.mapping.ii in
    let f = of_route m.arch m.kernel m.mapping in
    let i = c.loop-route.route-index in
    let is : c.routes-route-items.result.now ≡ m.mapping.routes = c.routes-route-items.ensures ∙ ap (λ z. z.routes) c.mapping.ensures.mapping in
    let step : with_positions ii (with_positions ii c.loop-route.table (f c.route-item.result)) (flat_map f (drop (i + 1) m.mapping.routes)) ≡ with_positions ii c.loop-route.table (flat_map f (drop i m.mapping.routes)) =
    subst (λ (z : List Route). with_positions ii (with_positions ii c.loop-route.table (f c.route-item.result)) (flat_map f (drop (i + 1) z)) ≡ with_positions ii c.loop-route.table (flat_map f (drop i z))) is
    (routes_step f ii c.loop-route.table c.routes-route-items.result.now i c.route-item.result c.loop-route-test.true c.route-item.is) in
    ap (λ z. with_positions ii z (flat_map f (drop (i + 1) m.mapping.routes))) c.note_route.ensures ∙ step ∙ c.loop-route.invariant

pub returns : goal.returns
unfolding positions
returns c =
    let m = c.args.legal.now in
    let f = of_route m.arch m.kernel m.mapping in
    let is : c.routes-route-items.result.now ≡ m.mapping.routes = c.routes-route-items.ensures ∙ ap (λ z. z.routes) c.mapping.ensures.mapping in
    let past : length m.mapping.routes ≤ c.loop-route.route-index = omega (arith, ap length is) in
    let none : drop c.loop-route.route-index m.mapping.routes ≡ [] = drop_of_length-le m.mapping.routes past in
    ap (λ z. with_positions m.mapping.ii c.loop-route.table (flat_map f z)) (sym none) ∙ c.loop-route.invariant
