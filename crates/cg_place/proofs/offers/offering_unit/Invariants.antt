use Rattle.std.proofs.Common.{◌≡◌, ◌≤◌, length}
use Rattle.cg_place.proofs.Offering.{offering_below}
use Rattle.cg_place.proofs.offers.offering_unit.Given as goal

abbrev pub invariant-loop-x : goal.invariant-loop-x
invariant-loop-x l = (l.passed ≡ length (offering_below l.arch l.op l.x)) × (l.passed ≤ l.place)
