use Rattle.std.proofs.Common.{◌≡◌, take, flat_map}
use Rattle.cg_parts.specs.Parts.{entries_of}
use Rattle.cg_parts.proofs.entries.entries_of_all.Given as goal

abbrev pub invariant-loop-element : goal.invariant-loop-element
invariant-loop-element l = l.list.items ≡ flat_map entries_of (take l.element-index l.elements)
