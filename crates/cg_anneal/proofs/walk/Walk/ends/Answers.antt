use Rattle.std.proofs.Common.{◌<◌, length, subst, sym}
use Rattle.cg_walk_spec.specs.State.{edges}
use Rattle.cg_walk_spec.specs.Ranges.{AreInRange}
use Rattle.cg_anneal.specs.Walking.{Walking, ends_are}
use Rattle.cg_anneal.proofs.Keeping as keeping
use Rattle.cg_anneal.proofs.walk.Walk.ends.Goals as goal

pub place-from-requires : goal.place-from-requires
place-from-requires c =
    let g = c.self.inside in
    let known : c.args.i < length (edges g.kernel.now) = subst (λ (V : Walking). c.args.i < length (edges V.kernel)) (sym c.self.view_is) c.requires in
    keeping.source_in _ g.graph.now g.edges.items g.placement g.usage g.missing c.self.invariant c.args.i known c.index-edge.result.now c.index-edge.ensures

pub place-to-requires : goal.place-to-requires
place-to-requires c =
    let g = c.self.inside in
    let known : c.args.i < length (edges g.kernel.now) = subst (λ (V : Walking). c.args.i < length (edges V.kernel)) (sym c.self.view_is) c.requires in
    keeping.node_in _ g.graph.now g.edges.items g.placement g.usage g.missing c.self.invariant c.args.i known c.index-edge.result.now c.index-edge.ensures

pub ends_between-requires-clause-from : goal.ends_between-requires-clause-from
ends_between-requires-clause-from c =
    let g = c.self.inside in
    let known : c.args.i < length (edges g.kernel.now) = subst (λ (V : Walking). c.args.i < length (edges V.kernel)) (sym c.self.view_is) c.requires in
    keeping.from_in _ g.graph.now g.edges.items g.placement g.usage g.missing c.self.invariant c.args.i known c.index-edge.result.now c.index-edge.ensures c.place-from.result c.place-from.ensures.value

pub ends_between-requires-clause-to : goal.ends_between-requires-clause-to
ends_between-requires-clause-to c =
    let g = c.self.inside in
    let known : c.args.i < length (edges g.kernel.now) = subst (λ (V : Walking). c.args.i < length (edges V.kernel)) (sym c.self.view_is) c.requires in
    keeping.to_in _ g.graph.now g.edges.items g.placement g.usage g.missing c.self.invariant c.args.i known c.index-edge.result.now c.index-edge.ensures c.place-to.result c.place-to.ensures.value

pub ends_between-requires-clause-port : goal.ends_between-requires-clause-port
ends_between-requires-clause-port c =
    let g = c.self.inside in
    let known : c.args.i < length (edges g.kernel.now) = subst (λ (V : Walking). c.args.i < length (edges V.kernel)) (sym c.self.view_is) c.requires in
    keeping.port_in _ g.graph.now g.edges.items g.placement g.usage g.missing c.self.invariant c.args.i known c.index-edge.result.now c.index-edge.ensures c.place-to.result c.place-to.ensures.value

pub ends_between-requires-clause-end : goal.ends_between-requires-clause-end
ends_between-requires-clause-end c =
    let g = c.self.inside in
    let known : c.args.i < length (edges g.kernel.now) = subst (λ (V : Walking). c.args.i < length (edges V.kernel)) (sym c.self.view_is) c.requires in
    keeping.end_in _ g.graph.now g.edges.items g.placement g.usage g.missing c.self.invariant c.args.i known c.index-edge.result.now c.index-edge.ensures c.place-to.result c.place-to.ensures.value

pub returns-clause-range : goal.returns-clause-range
returns-clause-range c =
    let g = c.self.inside in
    let known : c.args.i < length (edges g.kernel.now) = subst (λ (V : Walking). c.args.i < length (edges V.kernel)) (sym c.self.view_is) c.requires in
    let range = keeping.in_range _ g.graph.now g.edges.items g.placement g.usage g.missing c.self.invariant c.args.i known in
    let is = keeping.ends_is _ g.graph.now g.edges.items g.placement g.usage g.missing c.self.invariant c.args.i known c.index-edge.result.now c.index-edge.ensures c.place-from.result c.place-to.result c.ends_between.result c.place-from.ensures.value c.place-to.ensures.value
    c.ends_between.ensures.from c.ends_between.ensures.start c.ends_between.ensures.to c.ends_between.ensures.end in
    subst (λ (V : Walking). AreInRange V.arch (ends_are c.ends_between.result)) c.self.view_is (subst (λ e. AreInRange g.arch.now e) (sym is) range)
