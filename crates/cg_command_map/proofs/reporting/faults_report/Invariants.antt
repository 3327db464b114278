use Rattle.std.proofs.Common.{◌≡◌, ◌+◌, ◌++◌, drop}
use Rattle.cg_inputs.specs.Sources.{Pair}
use Rattle.cg_command_map.specs.Search.{faults_report}
use Rattle.cg_command_map.proofs.reporting.faults_report.Given as goal

abbrev pub invariant-loop-i : goal.invariant-loop-i
invariant-loop-i l =
    let p : Pair = record { arch = l.arch; kernel = l.kernel } in
    (l.report.items ++ faults_report p (l.first + l.i) (drop l.i l.misses)) ≡ faults_report p l.first l.misses
