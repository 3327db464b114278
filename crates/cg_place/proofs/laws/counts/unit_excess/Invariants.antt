use Rattle.std.proofs.Common.{◌≡◌, ◌*◌, ◌≤◌}
use Rattle.std.specs.Prelude.{sum_by}
use Rattle.std.specs.List.{range_with_len}
use Rattle.cg_place.specs.Counts.{excess_on}
use Rattle.cg_place.proofs.laws.counts.unit_excess.Given as goal

abbrev pub invariant-loop-unit : goal.invariant-loop-unit
invariant-loop-unit l = (l.excess ≡ sum_by (excess_on l.ii l.places) (range_with_len 0 l.unit)) × (l.excess ≤ 65536 * l.unit)
