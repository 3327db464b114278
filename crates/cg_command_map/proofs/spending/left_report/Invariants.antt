use Rattle.std.proofs.Common.{◌≡◌, ◌+◌, ◌++◌, drop}
use Rattle.cg_command_map.specs.Answered.{left_report}
use Rattle.cg_command_map.proofs.spending.left_report.Given as goal

abbrev pub invariant-loop-i : goal.invariant-loop-i
invariant-loop-i l = (l.report.items ++ left_report l.word (l.first + l.i) (drop l.i l.left)) ≡ left_report l.word l.first l.left
