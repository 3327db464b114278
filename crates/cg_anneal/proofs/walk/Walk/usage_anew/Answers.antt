use Rattle.std.proofs.Common.{◌≡◌, ◌<◌, length, subst, arith}
use Rattle.cg_walk_spec.specs.State.{edges}
use Rattle.cg_anneal.proofs.Anew.{IsUsedTo, used_room, used_more, used_excess, used_few}
use Rattle.cg_anneal.proofs.walk.Walk.usage_anew.Goals as goal

pub add_to-requires-clause-room : goal.add_to-requires-clause-room
add_to-requires-clause-room c = used_room c.args.self.now c.holds.ensures c.loop-i.i c.loop-i.usage c.loop-i.invariant

pub loop-i-preserved : goal.loop-i-preserved
loop-i-preserved c =
    let W = c.args.self.now in
    let e = c.count-i-end.ensures in
    let l = c.loop-i-test.true in
    let known : c.loop-i.i < length (edges W.kernel) = omega (arith, e, l) in
    used_more W c.holds.ensures c.loop-i.i c.loop-i.usage c.add_to.new.usage known c.loop-i.invariant c.in_ok-add_to.ensures

pub returns-clause-excess : goal.returns-clause-excess
returns-clause-excess c =
    let W = c.args.self.now in
    let e = c.count-i-end.ensures in
    let past = c.loop-i-test.false in
    let most = c.loop-i.auto.i-end in
    let done : c.loop-i.i ≡ length (edges W.kernel) = omega (arith, e, past, most) in
    used_excess W c.holds.ensures c.loop-i.usage (subst (λ k. IsUsedTo W k c.loop-i.usage) done c.loop-i.invariant)

pub returns-clause-few : goal.returns-clause-few
returns-clause-few c = used_few c.args.self.now c.holds.ensures c.loop-i.i c.loop-i.usage c.loop-i.invariant
