use Rattle.cg_bound_flow.specs.Lift.{IsLifting}
use Rattle.cg_bound_flow.proofs.lift.lift.Given as goal

abbrev pub invariant-loop-left : goal.invariant-loop-left
invariant-loop-left l = IsLifting l.network.links.now l.count l.flow l.initial.potentials.items l.terminals.start l.terminals.goal l.need l.potentials.items l.left

abbrev pub decreases-loop-left : goal.decreases-loop-left
decreases-loop-left l = l.left
