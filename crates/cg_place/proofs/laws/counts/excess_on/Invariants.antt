use Rattle.std.proofs.Common.{◌≡◌, ◌*◌, ◌≤◌}
use Rattle.std.specs.Prelude.{sum_by}
use Rattle.std.specs.List.{range_with_len}
use Rattle.cg_place.specs.Counts.{excess_at}
use Rattle.cg_place.proofs.laws.counts.excess_on.Given as goal

abbrev pub invariant-loop-slot : goal.invariant-loop-slot
invariant-loop-slot l = (l.excess ≡ sum_by (excess_at l.ii l.places l.unit) (range_with_len 0 l.slot)) × (l.excess ≤ 1024 * l.slot)
