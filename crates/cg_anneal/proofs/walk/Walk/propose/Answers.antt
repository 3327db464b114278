use Rattle.std.proofs.Common.{subst}
use Rattle.cg_anneal.specs.Walking.{Walking, MayPlace}
use Rattle.cg_anneal.proofs.Keeping as keeping
use Rattle.cg_anneal.proofs.walk.Walk.propose.Goals as goal

pub returns-clause-may : goal.returns-clause-may
returns-clause-may c =
    let g = c.self.inside in
    subst (λ (V : Walking). MayPlace V c.propose.result) c.self.view_is (keeping.may_proposed _ g.graph.now g.edges.items g.placement g.usage g.missing c.self.invariant c.propose.result c.propose.ensures.moves c.propose.ensures.soon)
