use Rattle.std.proofs.Common.{◌-◌}
use Rattle.cg_bound.specs.Search.{IsBetween}
use Rattle.cg_bound.proofs.halves.least_free.Given as goal

abbrev pub invariant-loop-high : goal.invariant-loop-high
invariant-loop-high l = IsBetween l.arch l.kernel l.low l.high l.below

abbrev pub decreases-loop-high : goal.decreases-loop-high
decreases-loop-high l = l.high - l.low
