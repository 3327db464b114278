use Rattle.std.proofs.Common.{◌≡◌, ℕ, ◌<◌, ◌≤◌, [], length}
use Rattle.std.specs.Prelude.{slice_index_or}
use Rattle.cg_origins.specs.Tasks.{AreTasks}
use Rattle.cg_origins.proofs.tasks.tasks_of.Given as goal

abbrev pub invariant-loop-number : goal.invariant-loop-number
invariant-loop-number g l = record {
  long : length l.slots.items ≡ l.number;
  some : 0 < l.progress.rows;
  few : l.progress.rows ≤ 256;
  each : (slot : ℕ) → slot < l.number → AreTasks l.fn.arch (g.C.Contexts.config l.contexts) slot l.progress.rows (slice_index_or l.slots.items slot []);
}
