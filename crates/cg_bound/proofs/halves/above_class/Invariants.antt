use Rattle.std.proofs.Common.{◌-◌}
use Rattle.cg_bound.specs.Search.{IsAbove}
use Rattle.cg_bound.proofs.halves.above_class.Given as goal

abbrev pub invariant-loop-high : goal.invariant-loop-high
invariant-loop-high l = IsAbove l.arch l.kernel l.low l.high l.set

abbrev pub decreases-loop-high : goal.decreases-loop-high
decreases-loop-high l = l.high - l.low
