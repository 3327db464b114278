use Rattle.std.proofs.Common.{arith}
use Rattle.cg_bound_text.proofs.Shown.{next_lines}
use Rattle.cg_bound_text.proofs.lines.push_lines.Goals as goal

pub loop-end-preserved : goal.loop-end-preserved
loop-end-preserved c =
    let t = c.loop-end-test.true in
    next_lines c.args.instance.arch.now c.args.instance.kernel.now c.args.instance.tables.now c.args.bounds.now c.loop-end.end c.loop-end.text.items c.push_lines_above.new.text.items _ (omega arith) c.in_ok-push_lines_above.ensures c.loop-end.invariant
