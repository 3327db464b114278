use Rattle.std.proofs.Common.{◌<◌, IfSome, length}
use Rattle.cg_search.proofs.retrying.nearest.Given as goal

abbrev pub invariant-loop-at : goal.invariant-loop-at
invariant-loop-at l = IfSome l.nearest (λ at. at < length l.misses)
