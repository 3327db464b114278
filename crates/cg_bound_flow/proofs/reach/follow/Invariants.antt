use Rattle.cg_bound_flow.specs.Reach.{IsFollowed}
use Rattle.cg_bound_flow.proofs.reach.follow.Given as goal

abbrev pub invariant-loop-more : goal.invariant-loop-more
invariant-loop-more l = IsFollowed l.residual.network.links.now l.residual.count l.residual.flow.now l.residual.potentials.now l.chain l.place l.initial.reached.steps.items l.initial.reached.order.items l.reached.steps.items l.reached.order.items l.more

abbrev pub decreases-loop-more : goal.decreases-loop-more
decreases-loop-more l = l.more
