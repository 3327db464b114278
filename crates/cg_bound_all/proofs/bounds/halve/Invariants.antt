use Rattle.std.proofs.Common.{◌-◌}
use Rattle.cg_bound_all.specs.Scan.{IsBetween}
use Rattle.cg_bound_all.proofs.bounds.halve.Given as goal

abbrev pub invariant-loop-low : goal.invariant-loop-low
invariant-loop-low l = IsBetween l.search.instance.arch.now l.search.instance.kernel.now l.search.instance.tables.now l.search.kind l.low l.high l.below

abbrev pub decreases-loop-low : goal.decreases-loop-low
decreases-loop-low l = l.high - l.low
