use Rattle.std.proofs.Common.{◌≡◌, ◌∙◌, ℕ, ◌+◌, ◌<◌, ◌≤◌, ◌^◌, List, length, Option, Some, ap, subst, sym, arith}
use Rattle.std.specs.Prelude.{All, slice_get}
use Rattle.cg_model.specs.Array.{Arch}
use Rattle.cg_route.specs.Least.{Ends}
use Rattle.cg_walk_spec.specs.State.{edges, state_positions}
use Rattle.cg_anneal.specs.Walking.{Walking, ends_are, ends_at}
use Rattle.cg_anneal.proofs.Keeping as keeping
use Rattle.cg_anneal.proofs.walk.Walk.add_to.Goals as goal

pub add-requires-clause-known : goal.add-requires-clause-known
add-requires-clause-known c =
    let g = c.self.inside in
    let i = c.args.i in
    let known : i < length (edges g.kernel.now) = subst (λ (V : Walking). i < length (edges V.kernel)) (sym c.self.view_is) c.requires.known in
    let some : slice_get g.routes.items i ≡ Some (Some c.in-Some.path) = keeping.there_is _ g.graph.now g.edges.items g.placement g.usage g.missing c.self.invariant i known c.index.result.now c.index.ensures ∙ ap (λ (x : Option (List ℕ)). Some x) c.in-Some.is in
    let fits = keeping.there_fits _ g.graph.now g.edges.items g.placement g.usage g.missing c.self.invariant i known c.in-Some.path some in
    let all = keeping.path_within_arch _ g.graph.now g.edges.items g.placement g.usage g.missing c.self.invariant i known c.in-Some.path fits in
    let here : All (λ r. r < length c.args.self.now.arch.resources) c.in-Some.path = subst (λ (V : Walking). All (λ r. r < length V.arch.resources) c.in-Some.path) c.self.view_is all in
    subst (λ (p : List ℕ). All (λ r. r < length c.args.usage.now.arch.resources) p) (sym c.as_slice.ensures) (subst (λ (A : Arch). All (λ r. r < length A.resources) c.in-Some.path) (sym c.requires.arch) here)

pub add-requires-clause-near : goal.add-requires-clause-near
add-requires-clause-near c =
    let g = c.self.inside in
    let i = c.args.i in
    let e = c.ends-ends.result in
    let known : i < length (edges g.kernel.now) = subst (λ (V : Walking). i < length (edges V.kernel)) (sym c.self.view_is) c.requires.known in
    let ends = subst (λ (V : Walking). ends_are e ≡ ends_at V i) (sym c.self.view_is) c.ends-ends.ensures.ends in
    let start = ap (λ (x : Ends). x.start) ends in
    let some : slice_get g.routes.items i ≡ Some (Some c.in-Some.path) = keeping.there_is _ g.graph.now g.edges.items g.placement g.usage g.missing c.self.invariant i known c.index.result.now c.index.ensures ∙ ap (λ (x : Option (List ℕ)). Some x) c.in-Some.is in
    let fits = keeping.there_fits _ g.graph.now g.edges.items g.placement g.usage g.missing c.self.invariant i known c.in-Some.path some in
    subst (λ (p : List ℕ). e.start + length p < 2 ^ 32) (sym c.as_slice.ensures) (keeping.path_near _ g.graph.now g.edges.items g.placement g.usage g.missing c.self.invariant i known c.in-Some.path fits e.start start)

pub add-requires-clause-room : goal.add-requires-clause-room
add-requires-clause-room c =
    let g = c.self.inside in
    let i = c.args.i in
    let known : i < length (edges g.kernel.now) = subst (λ (V : Walking). i < length (edges V.kernel)) (sym c.self.view_is) c.requires.known in
    let some : slice_get g.routes.items i ≡ Some (Some c.in-Some.path) = keeping.there_is _ g.graph.now g.edges.items g.placement g.usage g.missing c.self.invariant i known c.index.result.now c.index.ensures ∙ ap (λ (x : Option (List ℕ)). Some x) c.in-Some.is in
    let fits = keeping.there_fits _ g.graph.now g.edges.items g.placement g.usage g.missing c.self.invariant i known c.in-Some.path some in
    let most = keeping.path_fits_beside _ g.graph.now g.edges.items g.placement g.usage g.missing c.self.invariant i known c.in-Some.path fits in
    let within = c.requires.room in
    let here : length (state_positions c.args.self.now.arch c.args.self.now.kernel c.args.self.now.ii c.args.self.now.state) + length c.in-Some.path ≤ 2 ^ 48 =
    subst (λ (V : Walking). length (state_positions V.arch V.kernel V.ii V.state) + length c.in-Some.path ≤ 2 ^ 48) c.self.view_is most in
    subst (λ (p : List ℕ). length c.args.usage.now.positions + length p ≤ 2 ^ 48) (sym c.as_slice.ensures) (omega (arith, within, here))
