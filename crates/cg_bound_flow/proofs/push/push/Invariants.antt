use Rattle.cg_bound_flow.specs.Push.{IsPushing}
use Rattle.cg_bound_flow.proofs.push.push.Given as goal

abbrev pub invariant-loop-i : goal.invariant-loop-i
invariant-loop-i l = IsPushing l.priced.links.now l.priced.potentials.now l.initial.flow.items l.path.reached.now.steps.items l.i l.path.goal l.by l.flow.items

abbrev pub decreases-loop-i : goal.decreases-loop-i
decreases-loop-i l = l.i
