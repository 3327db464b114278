use Rattle.std.proofs.Common.{◌-◌}
use Rattle.cg_show_table.specs.Search.{IsBetweenChains}
use Rattle.cg_show_table.proofs.margin.least_chain.Given as goal

abbrev pub invariant-loop-high : goal.invariant-loop-high
invariant-loop-high l = IsBetweenChains l.arch l.kernel l.low l.high l.chain.items

abbrev pub decreases-loop-high : goal.decreases-loop-high
decreases-loop-high l = l.high - l.low
