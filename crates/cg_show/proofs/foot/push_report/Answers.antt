use Rattle.std.proofs.Common.{refl, arith}
use Rattle.cg_show.proofs.Report.{reported, all_reported}
use Rattle.cg_show.proofs.foot.push_report.Goals as goal

pub loop-line-init : goal.loop-line-init
loop-line-init c = (refl, omega arith)

pub loop-line-preserved : goal.loop-line-preserved
loop-line-preserved c = (
  reported c.loop-line.text.items _ _ c.as_str.result.now c.loop-line.y c.loop-line.line-index c.args.lines.now c.line-item.result
      c.loop-line-test.true c.line-item.is c.as_str.ensures.value c.loop-line.invariant.0 c.in_ok-push_report_line.ensures,
  omega arith,
)

pub returns : goal.returns
returns c = all_reported _ _ c.loop-line.y c.loop-line.line-index c.args.lines.now c.loop-line-test.false c.loop-line.invariant.0
