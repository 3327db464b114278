use Rattle.std.proofs.Common.{length}
use Rattle.cg_c_turn.proofs.draft.Draft.+nest.Given as goal

abbrev pub decreases-nest : goal.decreases-nest
decreases-nest l = length l.levels.now
