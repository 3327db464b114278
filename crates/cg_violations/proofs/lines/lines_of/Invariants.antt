use Rattle.std.proofs.Common.{◌≡◌, take}
use Rattle.std.specs.Prelude.{flat_map}
use Rattle.cg_violations.specs.Faults.{fault_line}
use Rattle.cg_violations.proofs.lines.lines_of.Given as goal

abbrev pub invariant-loop-violation : goal.invariant-loop-violation
invariant-loop-violation l = l.text.items ≡ flat_map (fault_line l.indexed.mapped.arch.now l.indexed.mapped.kernel.now l.indexed.mapped.mapping.now) (take l.violation-index l.violations)
