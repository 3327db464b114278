use Rattle.std.proofs.Common.{◌-◌}
use Rattle.cg_show_table.specs.Search.{IsBetweenClasses}
use Rattle.cg_show_table.proofs.margin.least_class.Given as goal

abbrev pub invariant-loop-high : goal.invariant-loop-high
invariant-loop-high l = IsBetweenClasses l.arch l.kernel l.low l.high l.«class»

abbrev pub decreases-loop-high : goal.decreases-loop-high
decreases-loop-high l = l.high - l.low
