use Rattle.std.proofs.Common.{sym}
use Rattle.std.specs.BinaryHeap.{heap_items}
use Rattle.cg_distance.proofs.Found.{takes_due, takes_overdue, is_same, is_other}
use Rattle.cg_distance.proofs.totals.go_on.Goals as goal

pub returns-in_ok-leave : goal.returns-in_ok-leave
returns-in_ok-leave c = takes_due c.args.links.now c.args.reached c.args.totals.now c.leave.new.totals (heap_items c.args.queue.now) (heap_items c.leave.new.queue) (is_same _ c.args.reached.total (sym c.if-eq.ensures)) c.in_ok-leave.ensures

pub returns-else-eq : goal.returns-else-eq
returns-else-eq c = takes_overdue c.args.links.now c.args.reached c.args.totals.now (heap_items c.args.queue.now) (is_other _ c.args.reached.total (sym c.if-eq.ensures))
