use Rattle.std.specs.BinaryHeap.{heap_items}
use Rattle.cg_distance.specs.Found.{IsUnderWay, work}
use Rattle.cg_distance.proofs.totals.totals_from.Given as goal

abbrev pub invariant-loop-reached : goal.invariant-loop-reached
invariant-loop-reached l = IsUnderWay l.kernel l.source l.totals.items (heap_items l.queue)

abbrev pub decreases-loop-reached : goal.decreases-loop-reached
decreases-loop-reached l = work l.totals.items (heap_items l.queue)
