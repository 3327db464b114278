use Rattle.std.proofs.Common.{◌≡◌, ◌∙◌, ℕ, ◌+◌, ◌<◌, ◌^◌, List, length, set, Option, Some, ap, subst, sym, arith}
use Rattle.std.specs.Prelude.{All, slice_get}
use Rattle.cg_model.specs.Mapping.{positions_on}
use Rattle.cg_congestion.specs.Table.{IsMore}
use Rattle.cg_route.specs.Least.{Ends}
use Rattle.cg_walk_spec.specs.State.{edges}
use Rattle.cg_walk_spec.specs.Walk.{edge}
use Rattle.cg_anneal.specs.Walking.{Walking, IsKept, ends_are, ends_at}
use Rattle.cg_anneal.proofs.Keeping as keeping
use Rattle.cg_anneal.proofs.walk.Walk.take.Goals as goal

pub remove-requires-clause-known : goal.remove-requires-clause-known
remove-requires-clause-known c =
    let g = c.self.inside in
    let i = c.args.i in
    let e = c.ends-ends.result in
    let known : i < length (edges g.kernel.now) = subst (λ (V : Walking). i < length (edges V.kernel)) (sym c.self.view_is) c.requires.known in
    let read : c.index_mut.result.now ≡ Some c.in-Some.path = sym c.take.ensures.value ∙ c.in-Some.is in
    let some : slice_get g.routes.items i ≡ Some (Some c.in-Some.path) = keeping.there_is _ g.graph.now g.edges.items g.placement g.usage g.missing c.self.invariant i known c.index_mut.result.now c.index_mut.ensures.value ∙ ap (λ (x : Option (List ℕ)). Some x) read in
    let fits = keeping.there_fits _ g.graph.now g.edges.items g.placement g.usage g.missing c.self.invariant i known c.in-Some.path some in
    subst (λ (p : List ℕ). All (λ r. r < length g.usage.arch.resources) p) (sym c.as_slice.ensures) (keeping.path_known _ g.graph.now g.edges.items g.placement g.usage g.missing c.self.invariant i known c.in-Some.path fits)

pub remove-requires-clause-near : goal.remove-requires-clause-near
remove-requires-clause-near c =
    let g = c.self.inside in
    let i = c.args.i in
    let e = c.ends-ends.result in
    let known : i < length (edges g.kernel.now) = subst (λ (V : Walking). i < length (edges V.kernel)) (sym c.self.view_is) c.requires.known in
    let source : e.source ≡ (edge g.kernel.now i).source = subst (λ (V : Walking). e.source ≡ (edge V.kernel i).source) (sym c.self.view_is) c.ends-ends.ensures.source in
    let ends = subst (λ (V : Walking). ends_are e ≡ ends_at V i) (sym c.self.view_is) c.ends-ends.ensures.ends in
    let start = ap (λ (x : Ends). x.start) ends in
    let read : c.index_mut.result.now ≡ Some c.in-Some.path = sym c.take.ensures.value ∙ c.in-Some.is in
    let some : slice_get g.routes.items i ≡ Some (Some c.in-Some.path) = keeping.there_is _ g.graph.now g.edges.items g.placement g.usage g.missing c.self.invariant i known c.index_mut.result.now c.index_mut.ensures.value ∙ ap (λ (x : Option (List ℕ)). Some x) read in
    let fits = keeping.there_fits _ g.graph.now g.edges.items g.placement g.usage g.missing c.self.invariant i known c.in-Some.path some in
    subst (λ (p : List ℕ). e.start + length p < 2 ^ 32) (sym c.as_slice.ensures) (keeping.path_near _ g.graph.now g.edges.items g.placement g.usage g.missing c.self.invariant i known c.in-Some.path fits e.start start)

pub remove-requires-clause-held : goal.remove-requires-clause-held
remove-requires-clause-held c =
    let g = c.self.inside in
    let i = c.args.i in
    let e = c.ends-ends.result in
    let known : i < length (edges g.kernel.now) = subst (λ (V : Walking). i < length (edges V.kernel)) (sym c.self.view_is) c.requires.known in
    let source : e.source ≡ (edge g.kernel.now i).source = subst (λ (V : Walking). e.source ≡ (edge V.kernel i).source) (sym c.self.view_is) c.ends-ends.ensures.source in
    let ends = subst (λ (V : Walking). ends_are e ≡ ends_at V i) (sym c.self.view_is) c.ends-ends.ensures.ends in
    let start = ap (λ (x : Ends). x.start) ends in
    let read : c.index_mut.result.now ≡ Some c.in-Some.path = sym c.take.ensures.value ∙ c.in-Some.is in
    let some : slice_get g.routes.items i ≡ Some (Some c.in-Some.path) = keeping.there_is _ g.graph.now g.edges.items g.placement g.usage g.missing c.self.invariant i known c.index_mut.result.now c.index_mut.ensures.value ∙ ap (λ (x : Option (List ℕ)). Some x) read in
    keeping.there_held _ g.graph.now g.edges.items g.placement g.usage g.missing c.self.invariant i known c.in-Some.path some (positions_on g.usage.arch e.source e.start c.as_slice.result.now)
    (keeping.positions_are _ g.graph.now g.edges.items g.placement g.usage g.missing c.self.invariant i known e.source e.start c.as_slice.result.now c.in-Some.path source start c.as_slice.ensures)

pub overflow_add-self : goal.overflow_add-self
overflow_add-self c =
    let g = c.self.inside in
    let few = keeping.few_missing _ g.graph.now g.edges.items g.placement g.usage g.missing c.self.invariant in
    omega (arith, few)

pub invariant_of-self-in-Some : goal.invariant_of-self-in-Some
invariant_of-self-in-Some c =
    let g = c.self.inside in
    let i = c.args.i in
    let e = c.ends-ends.result in
    let known : i < length (edges g.kernel.now) = subst (λ (V : Walking). i < length (edges V.kernel)) (sym c.self.view_is) c.requires.known in
    let source : e.source ≡ (edge g.kernel.now i).source = subst (λ (V : Walking). e.source ≡ (edge V.kernel i).source) (sym c.self.view_is) c.ends-ends.ensures.source in
    let ends = subst (λ (V : Walking). ends_are e ≡ ends_at V i) (sym c.self.view_is) c.ends-ends.ensures.ends in
    let start = ap (λ (x : Ends). x.start) ends in
    let read : c.index_mut.result.now ≡ Some c.in-Some.path = sym c.take.ensures.value ∙ c.in-Some.is in
    let some : slice_get g.routes.items i ≡ Some (Some c.in-Some.path) = keeping.there_is _ g.graph.now g.edges.items g.placement g.usage g.missing c.self.invariant i known c.index_mut.result.now c.index_mut.ensures.value ∙ ap (λ (x : Option (List ℕ)). Some x) read in
    let less = subst (λ ps. IsMore c.remove.new.self g.usage ps) (keeping.positions_are _ g.graph.now g.edges.items g.placement g.usage g.missing c.self.invariant i known e.source e.start c.as_slice.result.now c.in-Some.path source start c.as_slice.ensures) c.remove.ensures in
    subst (λ (r : Option (List ℕ)). IsKept (record { arch = g.arch.now; kernel = g.kernel.now; ii = g.ii; early = g.placement.early; state = record { places = g.placement.places; routes = set g.routes.items i r; history = c.remove.new.self.history } }) g.graph.now g.edges.items g.placement c.remove.new.self (g.missing + 1)) (sym c.take.ensures.after)
    (keeping.kept_less _ g.graph.now g.edges.items g.placement g.usage g.missing c.self.invariant i c.in-Some.path c.remove.new.self known some less)
