use Rattle.std.proofs.Common.{◌≡◌}
use Rattle.cg_congestion.specs.Claims.{excess_below}
use Rattle.cg_congestion.specs.Plain.{plains}
use Rattle.cg_congestion.proofs.laws.excess_of.Given as goal

abbrev pub invariant-loop-place : goal.invariant-loop-place
invariant-loop-place l = l.total ≡ excess_below l.interval (plains l.positions) l.place
