use Rattle.std.proofs.Common.{◌≤◌, ◌+◌, ◌*◌}
use Rattle.cg_model.specs.Kernel.{size}
use Rattle.cg_turns.specs.Frame.{IsAt}
use Rattle.cg_turns.specs.Watched.{IsWatched}
use Rattle.cg_turns.proofs.frame.one_turn.Given as goal

abbrev pub invariant-loop-place : goal.invariant-loop-place
invariant-loop-place l = record { at : IsAt l.program.kernel.now l.program.image.now l.turn.number l.place l.frame; outside : l.frame.outside ≤ 1024 * l.turn.number + l.place; watched : IsWatched l.program.kernel.now l.program.image.now (l.turn.number * size l.program.kernel.now + l.place) l.watch }
