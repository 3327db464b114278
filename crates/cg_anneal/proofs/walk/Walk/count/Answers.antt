use Rattle.std.proofs.Common.{refl, arith}
use Rattle.cg_anneal.proofs.Keeping as keeping
use Rattle.cg_anneal.proofs.walk.Walk.count.Goals as goal

pub overflow_cast-result : goal.overflow_cast-result
overflow_cast-result c =
    let g = c.self.inside in
    let few = keeping.few_edges _ g.graph.now g.edges.items g.placement g.usage g.missing c.self.invariant g.edges.items refl in
    let ok = g.edges.ok.0 in
    let h = c.len.ensures in
    omega (arith, few, ok, h)
