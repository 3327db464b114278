use Rattle.std.proofs.Common.{◌≡◌, ℕ, ◌+◌, ◌≤◌, ◌<◌, ◌^◌, List, length, Some, None, ap, subst, sym, arith}
use Rattle.std.specs.Prelude.{All, slice_get}
use Rattle.cg_congestion.specs.Table.{IsMore}
use Rattle.cg_route.specs.Least.{Ends, IsTimedPath}
use Rattle.cg_walk_spec.specs.State.{edges}
use Rattle.cg_walk_spec.specs.Walk.{edge}
use Rattle.cg_anneal.specs.Walking.{Walking, ends_are, ends_at}
use Rattle.cg_anneal.proofs.Keeping as keeping
use Rattle.cg_anneal.proofs.walk.Walk.set.Goals as goal

pub add-requires-clause-known : goal.add-requires-clause-known
add-requires-clause-known c =
    let g = c.self.inside in
    let i = c.args.i in
    let e = c.ends-ends.result in
    let known : i < length (edges g.kernel.now) = subst (λ (V : Walking). i < length (edges V.kernel)) (sym c.self.view_is) c.requires.known in
    let fits = subst (λ (V : Walking). IsTimedPath V.arch (ends_at V i) c.args.path) (sym c.self.view_is) c.requires.fits in
    subst (λ (p : List ℕ). All (λ r. r < length g.usage.arch.resources) p) (sym c.as_slice.ensures) (keeping.path_known _ g.graph.now g.edges.items g.placement g.usage g.missing c.self.invariant i known c.args.path fits)

pub add-requires-clause-near : goal.add-requires-clause-near
add-requires-clause-near c =
    let g = c.self.inside in
    let i = c.args.i in
    let e = c.ends-ends.result in
    let known : i < length (edges g.kernel.now) = subst (λ (V : Walking). i < length (edges V.kernel)) (sym c.self.view_is) c.requires.known in
    let source : e.source ≡ (edge g.kernel.now i).source = subst (λ (V : Walking). e.source ≡ (edge V.kernel i).source) (sym c.self.view_is) c.ends-ends.ensures.source in
    let ends = subst (λ (V : Walking). ends_are e ≡ ends_at V i) (sym c.self.view_is) c.ends-ends.ensures.ends in
    let start = ap (λ (x : Ends). x.start) ends in
    let fits = subst (λ (V : Walking). IsTimedPath V.arch (ends_at V i) c.args.path) (sym c.self.view_is) c.requires.fits in
    subst (λ (p : List ℕ). e.start + length p < 2 ^ 32) (sym c.as_slice.ensures) (keeping.path_near _ g.graph.now g.edges.items g.placement g.usage g.missing c.self.invariant i known c.args.path fits e.start start)

pub add-requires-clause-room : goal.add-requires-clause-room
add-requires-clause-room c =
    let g = c.self.inside in
    let i = c.args.i in
    let e = c.ends-ends.result in
    let known : i < length (edges g.kernel.now) = subst (λ (V : Walking). i < length (edges V.kernel)) (sym c.self.view_is) c.requires.known in
    let fits = subst (λ (V : Walking). IsTimedPath V.arch (ends_at V i) c.args.path) (sym c.self.view_is) c.requires.fits in
    subst (λ (p : List ℕ). length g.usage.positions + length p ≤ 2 ^ 48) (sym c.as_slice.ensures) (keeping.path_room _ g.graph.now g.edges.items g.placement g.usage g.missing c.self.invariant i known c.args.path fits)

pub overflow_sub-self : goal.overflow_sub-self
overflow_sub-self c =
    let g = c.self.inside in
    let i = c.args.i in
    let none : slice_get g.routes.items i ≡ Some None = subst (λ (V : Walking). slice_get V.state.routes i ≡ Some None) (sym c.self.view_is) c.requires.none in
    let some = keeping.some_missing _ g.graph.now g.edges.items g.placement g.usage g.missing c.self.invariant i none in
    omega (arith, some)

pub invariant_of-self-2 : goal.invariant_of-self-2
invariant_of-self-2 c =
    let g = c.self.inside in
    let i = c.args.i in
    let e = c.ends-ends.result in
    let known : i < length (edges g.kernel.now) = subst (λ (V : Walking). i < length (edges V.kernel)) (sym c.self.view_is) c.requires.known in
    let source : e.source ≡ (edge g.kernel.now i).source = subst (λ (V : Walking). e.source ≡ (edge V.kernel i).source) (sym c.self.view_is) c.ends-ends.ensures.source in
    let ends = subst (λ (V : Walking). ends_are e ≡ ends_at V i) (sym c.self.view_is) c.ends-ends.ensures.ends in
    let start = ap (λ (x : Ends). x.start) ends in
    let fits = subst (λ (V : Walking). IsTimedPath V.arch (ends_at V i) c.args.path) (sym c.self.view_is) c.requires.fits in
    let none : slice_get g.routes.items i ≡ Some None = subst (λ (V : Walking). slice_get V.state.routes i ≡ Some None) (sym c.self.view_is) c.requires.none in
    let more = subst (λ ps. IsMore g.usage c.add.new.self ps) (keeping.positions_are _ g.graph.now g.edges.items g.placement g.usage g.missing c.self.invariant i known e.source e.start c.as_slice.result.now c.args.path source start c.as_slice.ensures) c.in_ok-add.ensures.added in
    keeping.kept_more _ g.graph.now g.edges.items g.placement g.usage g.missing c.self.invariant i c.args.path c.add.new.self known none fits more
