use Rattle.std.proofs.Common.{◌≡◌, ◌+◌}
use Rattle.cg_sim.proofs.sim.Sim.finish.Given as goal

abbrev pub invariant-loop-cycle : goal.invariant-loop-cycle
invariant-loop-cycle g l = l.self ≡ record l.initial.self { done = l.initial.self.done + l._cycle }
