use Rattle.std.proofs.Common.{◌≡◌, ◌+◌, length}
use Rattle.cg_intervals.specs.Intervals.{last_tried}
use Rattle.cg_search.specs.Search.{AreMissedFrom}
use Rattle.cg_search.proofs.retrying.retry.Given as goal

abbrev pub invariant-loop-number : goal.invariant-loop-number
invariant-loop-number g l = AreMissedFrom l.call.arch.now l.call.kernel.now l.call.first l.misses.items × (l.call.first + length l.misses.items ≡ last_tried l.call.arch.now l.call.request.ii + 1)
