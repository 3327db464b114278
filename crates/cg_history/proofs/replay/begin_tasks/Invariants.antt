use Rattle.std.proofs.Common.{◌≡◌, ◌<◌, ◌≤◌, ◌+◌, ℕ}
use Rattle.cg_model.specs.Machine.{begins, result_of}
use Rattle.cg_datapath.specs.Effects.{BeginsAll}
use Rattle.cg_origins.specs.Tasks.{task}
use Rattle.cg_history.specs.Results.{KeepsRows, result_now}
use Rattle.cg_history.specs.State.{cycle_in}
use Rattle.cg_history.proofs.Gaps.{next_unit}
use Rattle.cg_history.proofs.replay.begin_tasks.Given as goal

abbrev pub invariant-loop-j : goal.invariant-loop-j
invariant-loop-j g l = record {
  effects : BeginsAll l.run.image.now (λ x. begins l.run.arch.now (g.C.Contexts.config l.run.contexts.now) l.run.n l.run.image.now x (cycle_in (g.C.Contexts.config l.run.contexts.now) l.slot l.round)) (next_unit l.tasks l.j) l.initial.effects l.effects;
  few : l.effects.outside ≤ l.initial.effects.outside + next_unit l.tasks l.j;
  kept : KeepsRows l.initial.history l.history;
  now : (i : ℕ) → i < l.j → result_now l.history (task l.tasks i).unit ≡ result_of l.run.image.now l.initial.effects.memory (begins l.run.arch.now (g.C.Contexts.config l.run.contexts.now) l.run.n l.run.image.now (task l.tasks i).unit (cycle_in (g.C.Contexts.config l.run.contexts.now) l.slot l.round));
}
