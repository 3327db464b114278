use Rattle.std.proofs.Common.{◌≡◌, ◌+◌, ◌≤◌, [], map, take, drop}
use Rattle.cg_check.specs.Claims.{position_of}
use Rattle.cg_search_respond.specs.Faults.{count_after, adds_claim}
use Rattle.cg_search_respond.specs.Kept.{HasClaims}
use Rattle.cg_search_respond.proofs.claims.count_claims.Given as goal

abbrev pub invariant-loop-stop : goal.invariant-loop-stop
invariant-loop-stop l = record {
  has : HasClaims l.ii (take l.stop-index (map position_of l.stops)) l.lists;
  counted : l.count + count_after (adds_claim l.ii) (take l.stop-index (map position_of l.stops)) (drop l.stop-index (map position_of l.stops)) ≡ count_after (adds_claim l.ii) [] (map position_of l.stops);
  few : l.count ≤ l.stop-index;
}
