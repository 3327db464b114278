use Rattle.std.proofs.Common.{◌≡◌, ◌+◌, ◌≤◌, drop}
use Rattle.cg_congestion.specs.Claims.{claims_at}
use Rattle.cg_congestion.specs.Plain.{plains}
use Rattle.cg_congestion.proofs.laws.count_claims.Given as goal

abbrev pub invariant-loop-place : goal.invariant-loop-place
invariant-loop-place l = record {
  counted : l.count + claims_at l.interval (plains (drop l.place l.positions)) l.node ≡ claims_at l.interval (plains l.positions) l.node;
  few : l.count ≤ l.place;
}
