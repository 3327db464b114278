use Rattle.std.proofs.Common.{◌≡◌, drop}
use Rattle.cg_congestion.specs.Claims.{uses}
use Rattle.cg_congestion.specs.Plain.{plain, plains}
use Rattle.cg_congestion.proofs.laws.find.Given as goal

abbrev pub invariant-loop-place : goal.invariant-loop-place
invariant-loop-place l = uses (plains l.positions) (plain l.position) ≡ uses (plains (drop l.place l.positions)) (plain l.position)
