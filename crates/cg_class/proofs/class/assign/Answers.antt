use Rattle.std.proofs.Common.{◌≡◌, length, ap, ◌∙◌, subst, arith}
use Rattle.cg_class.specs.Search.{IsPlaced}
use Rattle.cg_class.proofs.Answers.{assigned, none_overfull}
use Rattle.cg_class.proofs.class.assign.Goals as goal

pub returns : goal.returns
returns c =
    let A = c.args.arch.now in
    let K = c.args.kernel.now in
    let places = c.loop.places.items in
    let i = c.loop.invariant in
    let e = c.nodes-nodes.ensures.nodes in
    let n : c.loop.counter ≡ length c.nodes-nodes.result.now = omega arith in
    let placed = subst (λ z. IsPlaced K.nodes z c.args.ii places) c.units-units.ensures.units (subst (λ z. IsPlaced z c.units-units.result.now c.args.ii places) e i.0) in
    let a = assigned A K c.args.ii places placed (i.1 ∙ n ∙ ap length e) in
    (a, none_overfull A K c.args.ii places a)
