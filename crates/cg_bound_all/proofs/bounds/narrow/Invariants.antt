use Rattle.std.proofs.Common.{◌-◌}
use Rattle.cg_bound_all.specs.Scan.{IsClosing}
use Rattle.cg_bound_all.proofs.bounds.narrow.Given as goal

abbrev pub invariant-loop-low : goal.invariant-loop-low
invariant-loop-low l = IsClosing l.search.instance.arch.now l.search.instance.kernel.now l.search.instance.tables.now l.search.kind l.low l.high l.below l.above

abbrev pub decreases-loop-low : goal.decreases-loop-low
decreases-loop-low l = l.high - l.low
