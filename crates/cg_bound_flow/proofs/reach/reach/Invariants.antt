use Rattle.std.proofs.Common.{◌-◌, length}
use Rattle.cg_bound_flow.specs.Reach.{IsSpread}
use Rattle.cg_bound_flow.proofs.reach.reach.Given as goal

abbrev pub invariant-loop-done : goal.invariant-loop-done
invariant-loop-done l = IsSpread l.residual.network.links.now l.residual.count l.residual.flow.now l.residual.potentials.now l.terminals.start l.reached.steps.items l.reached.order.items l.done

abbrev pub decreases-loop-done : goal.decreases-loop-done
decreases-loop-done l = length l.residual.potentials.now - l.done
