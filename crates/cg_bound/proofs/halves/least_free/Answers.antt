use Rattle.cg_bound.proofs.Halving.{between_all}
use Rattle.cg_bound.proofs.halves.least_free.Goals as goal

pub loop-high-init : goal.loop-high-init
loop-high-init c =
    between_all c.args.arch.now c.args.kernel.now c.requires c.nodes-nodes.ensures.valid c.latencies_are_small.ensures c.limit-high.result c.limit-high.ensures.value
