use Rattle.std.proofs.Common.{◌≡◌, ◌+◌, ◌*◌, subst, ◌∙◌, arith}
use Rattle.cg_walk_spec.specs.State.{cost}
use Rattle.cg_anneal.specs.Walking.{Walking}
use Rattle.cg_anneal.proofs.Keeping as keeping
use Rattle.cg_anneal.proofs.walk.Walk.cost.Goals as goal

pub overflow_add-result : goal.overflow_add-result
overflow_add-result c =
    let g = c.self.inside in
    let few = keeping.excess_few _ g.graph.now g.edges.items g.placement g.usage g.missing c.self.invariant in
    let a = c.from.ensures in
    let b = c.from-2.ensures in
    let d = c.from-3.ensures in
    let e = c.excess.ensures in
    let x = c.order_violations.type_inv in
    let y = c.unit_excess.type_inv in
    let z = keeping.few_missing _ g.graph.now g.edges.items g.placement g.usage g.missing c.self.invariant in
    omega (arith, few, a, b, d, e, x, y, z)

pub returns : goal.returns
returns c =
    let g = c.self.inside in
    subst (λ (V : Walking). 1000 * (c.from.result + c.from-2.result + c.from-3.result) + c.excess.result ≡ cost V.arch V.kernel V.ii V.state) c.self.view_is
    (keeping.cost_is _ g.graph.now g.edges.items g.placement g.usage g.missing c.self.invariant c.from.result c.from-2.result c.from-3.result c.excess.result c.from.ensures (c.from-2.ensures ∙ c.order_violations.ensures.value) (c.from-3.ensures ∙ c.unit_excess.ensures.value) c.excess.ensures)
