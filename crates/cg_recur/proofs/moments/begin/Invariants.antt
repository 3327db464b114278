use Rattle.cg_recur.specs.Log.{IsBegun}
use Rattle.cg_recur.proofs.moments.begin.Given as goal

abbrev pub invariant-loop-v : goal.invariant-loop-v
invariant-loop-v l = IsBegun l.v l.log.items
