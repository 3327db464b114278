use Rattle.std.proofs.Common.{◌≡◌}
use Rattle.cg_notes_runs.proofs.array.cycle_outside.Given as goal

abbrev pub invariant-loop-cycle : goal.invariant-loop-cycle
invariant-loop-cycle l = l.sim.arch ≡ l.initial.sim.arch
