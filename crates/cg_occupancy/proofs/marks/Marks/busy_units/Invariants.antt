use Rattle.std.proofs.Common.{◌≡◌, ◌≤◌}
use Rattle.cg_list_laws.specs.Below.{sum_below}
use Rattle.cg_occupancy.proofs.Counted.{busy}
use Rattle.cg_occupancy.proofs.marks.Marks.busy_units.Given as goal

abbrev pub invariant-loop-unit : goal.invariant-loop-unit
invariant-loop-unit l = (l.count ≡ sum_below (busy l.self) l.unit) × (l.count ≤ l.unit)
