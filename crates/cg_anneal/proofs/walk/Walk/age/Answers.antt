use Rattle.std.proofs.Common.{◌∙◌, sym, ap, subst}
use Rattle.cg_congestion.specs.Table.{Table}
use Rattle.cg_walk_spec.specs.State.{State}
use Rattle.cg_walk_spec.specs.Walk.{aged_state}
use Rattle.cg_anneal.specs.Walking.{Walking, IsKept, at_state}
use Rattle.cg_anneal.proofs.Keeping as keeping
use Rattle.cg_anneal.proofs.walk.Walk.age.Goals as goal

pub invariant_of-self : goal.invariant_of-self
invariant_of-self c =
    let g = c.self.inside in
    subst (λ (T : Table). IsKept (record { arch = g.arch.now; kernel = g.kernel.now; ii = g.ii; early = g.placement.early; state = record { places = g.placement.places; routes = g.routes.items; history = T.history } }) g.graph.now g.edges.items g.placement T g.missing)
    (sym c.age.ensures) (keeping.kept_aged _ g.graph.now g.edges.items g.placement g.usage g.missing c.self.invariant)

pub returns : goal.returns
returns c =
    let g = c.self.inside in
    ap (λ (T : Table). record { arch = g.arch.now; kernel = g.kernel.now; ii = g.ii; early = g.placement.early; state = record { places = g.placement.places; routes = g.routes.items; history = T.history } }) c.age.ensures
    ∙ ap (λ (S : State). record { arch = g.arch.now; kernel = g.kernel.now; ii = g.ii; early = g.placement.early; state = S }) (keeping.aged_is _ g.graph.now g.edges.items g.placement g.usage g.missing c.self.invariant)
    ∙ ap (λ (V : Walking). at_state V (aged_state V.arch V.kernel V.ii V.state)) c.self.view_is
