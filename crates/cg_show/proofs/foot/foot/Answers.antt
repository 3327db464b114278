use Rattle.std.proofs.Common.{map}
use Rattle.std.specs.Prelude.{string_bytes}
use Rattle.cg_show.proofs.Report.{foot_is}
use Rattle.cg_show.proofs.foot.foot.Goals as goal

pub returns : goal.returns
returns c =
    foot_is c.args.marks.now (map string_bytes c.args.lines.now) c.new-text.result.items c.push_schedule.new.text.items c.push_report.new.text.items c.report_top.result c.new-text.ensures.items c.report_top.ensures.value
    c.in_ok-push_schedule.ensures c.in_ok-push_report.ensures
