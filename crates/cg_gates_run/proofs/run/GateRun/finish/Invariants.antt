use Rattle.std.proofs.Common.{◌≡◌, ◌+◌}
use Rattle.cg_gates_run.proofs.run.GateRun.finish.Given as goal

abbrev pub invariant-loop-cycle : goal.invariant-loop-cycle
invariant-loop-cycle g l = l.self ≡ record l.initial.self { done = l.initial.self.done + l._cycle }
