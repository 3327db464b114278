use Rattle.std.proofs.Common.{arith}
use Rattle.std.specs.BinaryHeap.{heap_items}
use Rattle.cg_distance.specs.declared.links.Link.{Link}
use Rattle.cg_distance.specs.Leaving.{link}
use Rattle.cg_distance.proofs.Found.{takes_next, takes_unfit}
use Rattle.cg_distance.proofs.totals.leave.Goals as goal
use Rattle.cg_distance.proofs.totals.leave.Goals.{in-Some+in_ok-reach, in_default}

pub loop-place-preserved : goal.loop-place-preserved
loop-place-preserved c =
    let none : Link = link 0 0 in
    elim c.match-checked_add.branch [
      | in-Some+in_ok-reach w ↦
          takes_next c.args.links.now c.loop-place.place c.args.total none c.args.totals.now c.loop-place.totals c.match-checked_add.totals (heap_items c.args.queue.now) (heap_items c.loop-place.queue) (heap_items c.match-checked_add.queue) c.loop-place-test.true c.loop-place.invariant
          (rw (w.totals-is, w.queue-is, ← w.in-Some.ensures.1) w.in_ok-reach.ensures)
      | in_default w ↦
          takes_next c.args.links.now c.loop-place.place c.args.total none c.args.totals.now c.loop-place.totals c.match-checked_add.totals (heap_items c.args.queue.now) (heap_items c.loop-place.queue) (heap_items c.match-checked_add.queue) c.loop-place-test.true c.loop-place.invariant
          (rw (w.totals-is, w.queue-is) (takes_unfit _ _ c.loop-place.totals (heap_items c.loop-place.queue) (omega (arith, w.in_default.ensures))))
    ]
