use Rattle.std.proofs.Common.{◌≡◌, length}
use Rattle.cg_class.proofs.Shifts.{IsShifting}
use Rattle.cg_class.proofs.search.shift.Given as goal

abbrev pub invariant-loop-at : goal.invariant-loop-at
invariant-loop-at l = IsShifting l.nodes l.units l.ii l.log l.places.items l.at × (length l.places.items ≡ length l.initial.places.items)

abbrev pub decreases-loop-at : goal.decreases-loop-at
decreases-loop-at l = l.at
