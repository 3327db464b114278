use Rattle.std.proofs.Common.{◌≡◌, ◌+◌, ◌++◌, drop, flat_map, length}
use Rattle.cg_parts.specs.Parts.{entries_of}
use Rattle.cg_validate.specs.Flat.{units_from}
use Rattle.cg_validate.proofs.build.units_of.Given as goal

-- the units so far and those to come, and the resources of the elements to come
abbrev pub invariant-loop-element : goal.invariant-loop-element
invariant-loop-element l =
    (l.units.items ++ units_from l.first (drop l.element-index l.elements) ≡ units_from 0 l.elements)
    × (l.first + length (flat_map entries_of (drop l.element-index l.elements)) ≡ length (flat_map entries_of l.elements))
