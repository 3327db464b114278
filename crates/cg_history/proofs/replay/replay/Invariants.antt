use Rattle.std.proofs.Common.{◌≡◌}
use Rattle.cg_history.specs.State.{IsAt, cycle_in}
use Rattle.cg_history.proofs.replay.replay.Given as goal

abbrev pub invariant-loop-round : goal.invariant-loop-round
invariant-loop-round g l = record {
  rows : l.history.rows ≡ l.tasks.rows;
  state : IsAt l.run.arch.now (g.C.Contexts.config l.run.contexts.now) l.run.n l.run.image.now (cycle_in (g.C.Contexts.config l.run.contexts.now) 0 l.round) l.history l.effects;
}

abbrev pub invariant-loop-slot : goal.invariant-loop-slot
invariant-loop-slot g l = record {
  rows : l.history.rows ≡ l.tasks.rows;
  state : IsAt l.run.arch.now (g.C.Contexts.config l.run.contexts.now) l.run.n l.run.image.now (cycle_in (g.C.Contexts.config l.run.contexts.now) l.slot l.round) l.history l.effects;
}
