use Rattle.cg_recur.specs.Log.{IsCounting}
use Rattle.cg_recur.proofs.moments.numbers.Given as goal

abbrev pub invariant-loop-v : goal.invariant-loop-v
invariant-loop-v l = IsCounting l.v l.last.items
