use Rattle.std.proofs.Common.{length, arith}
use Rattle.cg_recur.proofs.Paths.{trace_more}
use Rattle.cg_recur.proofs.closed.trace.Goals as goal

pub loop-k-preserved : goal.loop-k-preserved
loop-k-preserved c =
    let i = c.loop-k.invariant in
    trace_more c.args.edges.now c.args.ii (length c.args.last.now) c.args.log.now c.args.last.now c.requires.good c.loop-k.path.items c.push-in-loop-k.new.self.items c.loop-k.k c.loop-k.at i.0 i.1 i.2 i.3 i.4 (omega arith) c.in_ok-push-2.ensures.items
