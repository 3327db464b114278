use Rattle.std.proofs.Common.{◌≡◌}
use Rattle.cg_run_rows.proofs.netlists.runs_alike.Given as goal

abbrev pub invariant-loop-cycle : goal.invariant-loop-cycle
invariant-loop-cycle g l = record {
  sim : l.sim.arch ≡ l.initial.sim.arch;
  run : l.run.netlist ≡ l.initial.run.netlist;
}
