use Rattle.std.proofs.Common.{◌≡◌, ◌+◌, ◌*◌, ◌++◌, map, drop}
use Rattle.std.specs.Prelude.{string_bytes}
use Rattle.cg_show.specs.Foot.{report_text}
use Rattle.cg_show.proofs.foot.push_report.Given as goal

abbrev pub invariant-loop-line : goal.invariant-loop-line
invariant-loop-line l =
    (l.text.items ++ report_text l.y (map string_bytes (drop l.line-index l.lines)) ≡ l.fn.text.items ++ report_text l.top (map string_bytes l.lines))
    × (l.y ≡ l.top + 16 * l.line-index)
