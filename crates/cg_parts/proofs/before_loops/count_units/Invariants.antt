use Rattle.std.proofs.Common.{◌≡◌, take, count_by}
use Rattle.cg_parts.specs.Rules.{is_unit}
use Rattle.cg_parts.proofs.before_loops.count_units.Given as goal

abbrev pub invariant-loop-element : goal.invariant-loop-element
invariant-loop-element l = l.count ≡ count_by is_unit (take l.element-index l.elements)
