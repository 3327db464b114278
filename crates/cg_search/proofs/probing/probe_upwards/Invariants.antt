use Rattle.std.proofs.Common.{◌≡◌, ◌+◌, length}
use Rattle.cg_search.specs.Search.{AreMissedFrom}
use Rattle.cg_search.proofs.probing.probe_upwards.Given as goal

abbrev pub invariant-loop-ii : goal.invariant-loop-ii
invariant-loop-ii g l = AreMissedFrom l.call.arch.now l.call.kernel.now l.call.first l.misses.items × (l.call.first + length l.misses.items ≡ l.ii)
