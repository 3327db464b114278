use Rattle.std.proofs.Common.{length, ap}
use Rattle.cg_distance.proofs.Seen.{none_seen}
use Rattle.cg_distance.proofs.links.links.Goals as goal

pub loop-to-init : goal.loop-to-init
loop-to-init c = none_seen c.args.kernel.now (length c.nodes-size.result.now) c.in_ok-lists.lists.items (ap length c.nodes-size.ensures.nodes) c.in_ok-lists.ensures
