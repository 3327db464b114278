use Rattle.std.proofs.Common.{◌≡◌, ◌+◌, ◌≤◌, List, [], ◌∙◌, sym, ap, subst, drop, length, arith}
use Rattle.std.specs.Prelude.{flat_map}
use Rattle.std.proofs.Math.ListN.{drop_of_length-le}
use Rattle.cg_model.specs.declared.mapping.Route.{Route}
use Rattle.cg_model.specs.Mapping.{positions, of_route}
use Rattle.cg_check.specs.Claims.{claims}
use Rattle.cg_check.proofs.Tables.{claims-routes}
use Rattle.cg_check.proofs.claims.claim_all.Goals as goal

pub loop-route-preserved : goal.loop-route-preserved
loop-route-preserved c =
    let M = c.args.mapping.now in
    let f = of_route c.args.arch.now c.args.kernel.now M in
    let route = c.route-item.result in
    let i = c.loop-route.route-index in
    let step : claims c.args.sharing M.ii (claims c.args.sharing M.ii c.loop-route.table (f route)) (flat_map f (drop (i + 1) M.routes)) ≡ claims c.args.sharing M.ii c.loop-route.table (flat_map f (drop i M.routes)) =
    subst (λ (z : List Route). claims c.args.sharing M.ii (claims c.args.sharing M.ii c.loop-route.table (f route)) (flat_map f (drop (i + 1) z)) ≡ claims c.args.sharing M.ii c.loop-route.table (flat_map f (drop i z))) c.routes-route-items.ensures
    (claims-routes f c.args.sharing M.ii c.loop-route.table c.routes-route-items.result.now i route c.loop-route-test.true c.route-item.is) in
    ap (λ z. claims c.args.sharing M.ii z (flat_map f (drop (i + 1) M.routes))) c.claim_route.ensures ∙ step ∙ c.loop-route.invariant

pub returns : goal.returns
unfolding positions
returns c =
    let M = c.args.mapping.now in
    let f = of_route c.args.arch.now c.args.kernel.now M in
    let past : length M.routes ≤ c.loop-route.route-index = omega (arith, ap length c.routes-route-items.ensures) in
    let none : drop c.loop-route.route-index M.routes ≡ [] = drop_of_length-le M.routes past in
    ap (λ z. claims c.args.sharing M.ii c.loop-route.table (flat_map f z)) (sym none) ∙ c.loop-route.invariant
