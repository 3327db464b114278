use Rattle.std.proofs.Common.{◌≡◌, ◌≤◌, take}
use Rattle.cg_class.specs.Class.{units_for}
use Rattle.cg_class.proofs.counts.count_units.Given as goal

abbrev pub invariant-loop-unit : goal.invariant-loop-unit
invariant-loop-unit l = (l.count ≡ units_for (take l.unit-index l.units) l.set) × (l.count ≤ l.unit-index)
