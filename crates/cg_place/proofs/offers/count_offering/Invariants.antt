use Rattle.std.proofs.Common.{◌≡◌, ◌≤◌, length}
use Rattle.cg_place.proofs.Offering.{offering_below}
use Rattle.cg_place.proofs.offers.count_offering.Given as goal

abbrev pub invariant-loop-x : goal.invariant-loop-x
invariant-loop-x l = (l.count ≡ length (offering_below l.arch l.op l.x)) × (l.count ≤ l.x)
