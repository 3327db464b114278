use Rattle.std.proofs.Common.{◌≤◌}
use Rattle.cg_origins.proofs.TasksSoFar.{AreTasksBelow}
use Rattle.cg_origins.proofs.tasks.slot_tasks.Given as goal

abbrev pub invariant-loop-unit : goal.invariant-loop-unit
invariant-loop-unit g l = record {
  tasks : AreTasksBelow l.slot.arch.now (g.C.Contexts.config l.slot.contexts.now) l.slot.number l.progress.rows l.unit l.tasks.items;
  grows : l.initial.progress.rows ≤ l.progress.rows;
  few : l.progress.rows ≤ 256;
}
