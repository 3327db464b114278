use Rattle.std.proofs.Common.{length, map, take}
use Rattle.cg_check.specs.Claims.{position_of}
use Rattle.cg_violations.specs.Buckets.{HasPositions}
use Rattle.cg_violations.proofs.buckets.add_all.Given as goal

abbrev pub invariant-loop-stop : goal.invariant-loop-stop
invariant-loop-stop l = HasPositions (length l.fn.lists) l.ii (map position_of (take l.stop-index l.stops)) l.lists
