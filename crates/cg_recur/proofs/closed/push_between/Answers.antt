use Rattle.std.proofs.Common.{arith}
use Rattle.cg_recur.proofs.Cycles.{push_more}
use Rattle.cg_recur.proofs.closed.push_between.Goals as goal

pub loop-k-preserved : goal.loop-k-preserved
loop-k-preserved c =
    (omega arith, omega arith, push_more c.args.log.now c.args.path.now c.loop-k.ids.items c.push.new.self.items _ c.args.low c.loop-k.k (omega arith) c.loop-k.invariant.2 c.in_ok-push.ensures.items)
