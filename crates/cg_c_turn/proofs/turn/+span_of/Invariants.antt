use Rattle.std.proofs.Common.{length}
use Rattle.cg_c_turn.proofs.turn.+span_of.Given as goal

-- proposed from what the function passes where it calls itself
abbrev pub decreases-span_of : goal.decreases-span_of
decreases-span_of l = length l.levels.now
