use Rattle.std.proofs.Common.{◌≡◌, subst}
use Rattle.cg_anneal.specs.Walking.{Walking}
use Rattle.cg_anneal.proofs.walk.Walk.graph.Goals as goal

pub returns : goal.returns
returns c =
    let g = c.self.inside in
    subst (λ (V : Walking). g.graph.now ≡ record { arch = V.arch; interval = V.ii }) c.self.view_is c.self.invariant.by_graph
