use Rattle.cg_anneal.proofs.Keeping as keeping
use Rattle.cg_anneal.proofs.walk.Walk.touching.Goals as goal

pub touching-requires : goal.touching-requires
touching-requires c =
    let g = c.self.inside in
    record { few = keeping.few_edges _ g.graph.now g.edges.items g.placement g.usage g.missing c.self.invariant c.deref.result.now c.deref.ensures.value }
