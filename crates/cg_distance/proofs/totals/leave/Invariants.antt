use Rattle.std.proofs.Common.{take}
use Rattle.std.specs.BinaryHeap.{heap_items}
use Rattle.cg_distance.specs.Found.{Takes, Beyond}
use Rattle.cg_distance.proofs.totals.leave.Given as goal

abbrev pub invariant-loop-place : goal.invariant-loop-place
invariant-loop-place l = Takes (Beyond (take l.place l.links) l.total) l.fn.totals (heap_items l.fn.queue) l.totals (heap_items l.queue)
