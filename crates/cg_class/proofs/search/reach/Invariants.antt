use Rattle.std.proofs.Common.{◌-◌, length}
use Rattle.cg_class.specs.Search.{IsSearch}
use Rattle.cg_class.proofs.search.reach.Given as goal

abbrev pub invariant-loop-number : goal.invariant-loop-number
invariant-loop-number l = IsSearch l.nodes l.units l.ii l.places l.log.items l.seen.items l.done l.number

abbrev pub decreases-loop-number : goal.decreases-loop-number
decreases-loop-number l = length l.units - l.number
