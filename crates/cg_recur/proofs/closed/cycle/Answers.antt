use Rattle.std.proofs.Common.{length}
use Rattle.cg_recur.proofs.Cycles.{shown_from}
use Rattle.cg_recur.proofs.closed.cycle.Goals as goal

pub returns : goal.returns
returns c =
    shown_from c.args.edges.now c.args.ii (length c.args.last.now) c.args.log.now c.args.last.now c.requires.good c.in_ok-path.path.items c.deref.result.now c.deref-2.result.now c.deref-3.result.now c.deref-4.result.now
    c.new-ids.result.items c.push_between.new.ids.items c.push_between-2.new.ids.items c.repeat-low.result.0 c.repeat-low.result.1 c.cut-at.result c.in_ok-path.ensures.0
    c.deref.ensures.value c.deref-2.ensures.value c.deref-3.ensures.value c.deref-4.ensures.value c.repeat-low.ensures c.cut-at.ensures c.new-ids.ensures.items c.in_ok-push_between.ensures c.in_ok-push_between-2.ensures
