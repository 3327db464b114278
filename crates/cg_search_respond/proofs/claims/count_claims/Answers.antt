use Rattle.std.proofs.Common.{◌≡◌, ◌+◌, refl, ap, arith, map, take}
use Rattle.cg_check.specs.Claims.{position_of}
use Rattle.cg_search_respond.proofs.Counted.{one_if, one_if_few, claims_next}
use Rattle.cg_search_respond.proofs.claims.count_claims.Goals as goal
use Rattle.cg_search_respond.proofs.claims.count_claims.Goals.{then-branch, else-branch}

pub loop-stop-preserved : goal.loop-stop-preserved
loop-stop-preserved c =
    let k = c.loop-stop.stop-index in
    let b = c.in_ok-claim.field-0 in
    let so_far = c.loop-stop.invariant.has in
    let before = take k (map position_of c.args.stops.now) in
    let next : c.if-branch.count ≡ c.loop-stop.count + one_if b =
    elim c.if-branch.branch [
      | then-branch w ↦ (let e = w.count-is in let one : one_if b ≡ 1 = ap one_if w.if-branch.true in omega arith)
      | else-branch w ↦ (let e = w.count-is in let none : one_if b ≡ 0 = ap one_if w.if-branch.false in omega arith)
    ] in
    let one = one_if_few b in
    let few = c.loop-stop.invariant.few in
    let both = claims_next c.args.ii k c.loop-stop.count c.if-branch.count _ c.args.stops.now c.claim.new.lists _ _ b c.loop-stop-test.true refl (c.in_ok-claim.ensures.adds before so_far) (c.in_ok-claim.ensures.kept before so_far) next c.loop-stop.invariant.counted in
    record {
      has = both.0;
      counted = both.1;
      few = omega arith;
    }
