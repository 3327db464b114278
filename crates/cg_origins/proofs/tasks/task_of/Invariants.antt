use Rattle.std.proofs.Common.{◌≡◌, ℕ, ◌<◌, ◌≤◌, length}
use Rattle.std.specs.Prelude.{slice_index_or}
use Rattle.cg_origins.specs.Tasks.{IsOperand}
use Rattle.cg_origins.specs.declared.source.Source.TheVariants as source
use Rattle.cg_origins.proofs.tasks.task_of.Given as goal

abbrev pub invariant-loop-place : goal.invariant-loop-place
invariant-loop-place g l = record {
  long : length l.sources ≡ 3;
  operands : (p : ℕ) → p < l.place → IsOperand l.slot.arch.now (g.C.Contexts.config l.slot.contexts.now) l.slot.number l.unit p l.warm l.progress.rows (slice_index_or l.sources p (source.Word 0));
  rest : (p : ℕ) → l.place ≤ p → slice_index_or l.sources p (source.Word 0) ≡ source.Word 0;
  grows : l.initial.progress.rows ≤ l.progress.rows;
  few : l.progress.rows ≤ 256;
}
