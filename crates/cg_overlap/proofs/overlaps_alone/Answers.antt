use Rattle.cg_overlap.proofs.Overlap.{follows_alone, leaves_alone}
use Rattle.cg_overlap.proofs.overlaps_alone.Goals as goal

pub returns : goal.returns
returns c = record { follows = follows_alone; leaves = leaves_alone }
