use Rattle.cg_overlap.proofs.Single.{carries_one}
use Rattle.cg_overlap.proofs.Overlap.{follows, leaves_the_same, begins_only}
use Rattle.cg_overlap.proofs.overlaps.Goals as goal

pub returns : goal.returns
returns c = record { once = carries_one; follows = follows; only = begins_only; leaves = leaves_the_same }
