use Rattle.std.proofs.Common.{◌≡◌, ◌≤◌, ◌*◌, ◌%◌, ◌+◌}
use Rattle.cg_model.specs.Kernel.{size}
use Rattle.cg_turns.specs.Watched.{IsWatched}
use Rattle.cg_turns.specs.Frame.{IsAt}
use Rattle.cg_turns.proofs.turns.run.Given as goal

abbrev pub invariant-loop-turn : goal.invariant-loop-turn
invariant-loop-turn l = record { at : IsAt l.kernel l.image l.turn 0 l.frame; outside : l.frame.outside ≤ 1024 * l.turn; row : l.row ≡ l.turn % 5; watched : IsWatched l.kernel l.image (l.turn * size l.kernel + 0) l.watch }
