use Rattle.std.proofs.Common.{◌∙◌, ap}
use Rattle.cg_walk_spec.specs.State.{mapping_of}
use Rattle.cg_anneal.proofs.walk.Walk.take_mapping.Goals as goal

pub returns : goal.returns
unfolding mapping_of
returns c =
    let W = c.args.self.now in
    c.new.ensures ∙ ap (λ x. record { ii = x; places = c.in_ok-places.places.items; routes = c.in_ok-routes.routes.items }) c.interval-ii.ensures
    ∙ ap (λ x. record { ii = W.ii; places = x; routes = c.in_ok-routes.routes.items }) c.in_ok-places.ensures
    ∙ ap (λ x. record { ii = W.ii; places = W.state.places; routes = x }) c.in_ok-routes.ensures
