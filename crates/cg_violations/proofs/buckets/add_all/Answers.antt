use Rattle.std.proofs.Common.{length, refl}
use Rattle.cg_violations.proofs.Filled.{next_filled}
use Rattle.cg_violations.proofs.buckets.add_all.Goals as goal

pub loop-stop-preserved : goal.loop-stop-preserved
loop-stop-preserved c =
    next_filled (length c.args.lists.now) c.args.ii c.loop-stop.stop-index c.args.stops.now c.loop-stop.lists c.add_at.new.lists _ _ c.bucket-at.result c.loop-stop-test.true refl c.bucket-at.ensures.value c.bucket-at.ensures.below
    c.in_ok-add_at.ensures c.loop-stop.invariant
