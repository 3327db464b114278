use Rattle.std.proofs.Common.{◌<◌, take}
use Rattle.cg_turns.specs.Last.{IsThinnedBehind}
use Rattle.cg_turns.proofs.last.thinned.Given as goal

abbrev pub invariant-loop-place : goal.invariant-loop-place
invariant-loop-place l = (0 < l.place) × IsThinnedBehind (take l.place l.accesses.items) l.latest.items
