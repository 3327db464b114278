use Rattle.std.proofs.Common.{◌≡◌, ◌<◌, length, ap, subst, arith}
use Rattle.cg_model.specs.Kernel.{Kernel, size}
use Rattle.cg_anneal.proofs.Anew.{IsPlacedTo, may_stand, placed_all}
use Rattle.cg_anneal.proofs.walk.Walk.placement_anew.Goals as goal

pub apply-requires : goal.apply-requires
apply-requires c =
    let W = c.args.self.now in
    let v = c.loop-node.node in
    let nodes = ap (λ ns. length ns) c.nodes-count.ensures.nodes in
    let kernel = ap (λ (K : Kernel). length K.nodes) c.kernel-kernel.ensures in
    let l = c.loop-node-test.true in
    let known : v < size W.kernel = omega (arith, nodes, kernel, l) in
    may_stand W c.holds.ensures v c.loop-node.placement c.place_of-place.result known c.loop-node.invariant c.place_of-place.ensures

pub returns-clause-places : goal.returns-clause-places
returns-clause-places c =
    let W = c.args.self.now in
    let nodes = ap (λ ns. length ns) c.nodes-count.ensures.nodes in
    let kernel = ap (λ (K : Kernel). length K.nodes) c.kernel-kernel.ensures in
    let past = c.loop-node-test.false in
    let most = c.loop-node.auto.node-end in
    let done : c.loop-node.node ≡ size W.kernel = omega (arith, nodes, kernel, past, most) in
    placed_all W c.holds.ensures c.loop-node.placement (subst (λ k. IsPlacedTo W k c.loop-node.placement) done c.loop-node.invariant)
