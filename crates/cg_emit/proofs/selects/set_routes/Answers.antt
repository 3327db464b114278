use Rattle.std.proofs.Common.{◌+◌, drop, List, sym, ap, ◌∙◌}
use Rattle.std.specs.Prelude.{flat_map}
use Rattle.std.proofs.lemmas.List.{drop_all}
use Rattle.std.proofs.lemmas.List.Concat.{flat_map-cons}
use Rattle.cg_model.specs.declared.mapping.Route.{Route}
use Rattle.cg_model.specs.Mapping.{Position, of_route, positions}
use Rattle.cg_emit.specs.Building.{with_positions}
use Rattle.cg_emit.proofs.Paths.{drop_next}
use Rattle.cg_emit.proofs.Selected.{with_positions-append}
use Rattle.cg_emit.proofs.selects.set_routes.Goals as goal

pub loop-route-preserved : goal.loop-route-preserved
loop-route-preserved c =
    let A = c.args.legal.now.arch in
    let f = of_route A c.args.legal.now.kernel c.args.legal.now.mapping in
    let items = c.routes-route-items.result.now in
    let rest = drop (c.loop-route.route-index + 1) items in
    let next = drop_next items c.loop-route.route-index c.route-item.result c.loop-route-test.true c.route-item.is in
    record {
      canonical = c.set_route.ensures.canonical;
      set =
          ap (with_positions A (flat_map f rest)) c.set_route.ensures.set
          ∙ sym (with_positions-append A (f c.route-item.result) (flat_map f rest) c.loop-route.config)
          ∙ ap (λ (ps : List Position). with_positions A ps c.loop-route.config) (sym (flat_map-cons f c.route-item.result rest))
          ∙ ap (λ (rs : List Route). with_positions A (flat_map f rs) c.loop-route.config) (sym next)
          ∙ c.loop-route.invariant.set;
    }

pub returns-clause-set : goal.returns-clause-set
unfolding positions
returns-clause-set c =
    let A = c.args.legal.now.arch in
    let f = of_route A c.args.legal.now.kernel c.args.legal.now.mapping in
    let none = drop_all c.loop-route.route-index c.routes-route-items.result.now c.loop-route-test.false in
    ap (λ (rs : List Route). with_positions A (flat_map f rs) c.loop-route.config) (sym none) ∙ c.loop-route.invariant.set
