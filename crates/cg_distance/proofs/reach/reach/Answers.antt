use Rattle.std.proofs.Common.{sym, arith}
use Rattle.std.specs.BinaryHeap.{heap_items}
use Rattle.cg_distance.proofs.Found.{takes_one, takes_not_nearer}
use Rattle.cg_distance.proofs.reach.reach.Goals as goal

pub returns-in_ok-push : goal.returns-in_ok-push
returns-in_ok-push c = takes_one c.args.reached.node c.args.reached.total c.args.totals.now (heap_items c.args.queue.now) (heap_items c.push.new.self) c.requires (sym c.if-is_nearer.ensures) (omega arith) c.in_ok-push.ensures.permutation

pub returns-else-is_nearer : goal.returns-else-is_nearer
returns-else-is_nearer c = takes_not_nearer c.args.reached.node c.args.reached.total c.args.totals.now (heap_items c.args.queue.now) (sym c.if-is_nearer.ensures)
