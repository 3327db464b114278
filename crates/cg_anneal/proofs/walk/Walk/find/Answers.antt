use Rattle.std.proofs.Common.{◌≡◌, ℕ, ◌<◌, List, length, Some, subst, sym}
use Rattle.cg_route.specs.Least.{IsLeastPath, AreNear}
use Rattle.cg_walk_spec.specs.State.{edges}
use Rattle.cg_walk_spec.specs.Walk.{edge, IsFoundFor}
use Rattle.cg_anneal.specs.Walking.{Walking, ends_are, ends_at}
use Rattle.cg_anneal.proofs.Keeping as keeping
use Rattle.cg_anneal.proofs.walk.Walk.find.Goals as goal

pub returns-in-Some : goal.returns-in-Some
returns-in-Some c =
    let g = c.self.inside in
    let e = c.ends-ends.result in
    let known : c.args.i < length (edges g.kernel.now) = subst (λ (V : Walking). c.args.i < length (edges V.kernel)) (sym c.self.view_is) c.requires in
    let source : e.source ≡ (edge g.kernel.now c.args.i).source = subst (λ (V : Walking). e.source ≡ (edge V.kernel c.args.i).source) (sym c.self.view_is) c.ends-ends.ensures.source in
    let ends = subst (λ (V : Walking). ends_are e ≡ ends_at V c.args.i) (sym c.self.view_is) c.ends-ends.ensures.ends in
    let least : IsLeastPath g.usage e.source (ends_are e) c.in-Some.path.items = rw c.in-Some.is at c.in_ok-found.ensures.least in
    let near : AreNear g.usage.interval (ends_are e) = rw c.in-Some.is at c.in_ok-found.ensures.near in
    record {
      found =
          subst (λ (V : Walking). IsFoundFor V.arch V.kernel V.ii V.state c.args.i (Some c.new.result)) c.self.view_is
          (keeping.found_for _ g.graph.now g.edges.items g.placement g.usage g.missing c.self.invariant c.args.i known e.source (ends_are e) (Some c.new.result) source ends
          (subst (λ (p : List ℕ). IsLeastPath g.usage e.source (ends_are e) p) (sym c.new.ensures) least, near));
    }
