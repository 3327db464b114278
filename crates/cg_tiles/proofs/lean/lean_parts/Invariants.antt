use Rattle.std.proofs.Common.{◌≡◌, ◌++◌, map}
use Rattle.std.specs.Vec.Iter.{into_iter_items}
use Rattle.cg_tiles.specs.Lean.{lean_written}
use Rattle.cg_tiles.proofs.lean.lean_parts.Given as goal

abbrev pub invariant-loop-part : goal.invariant-loop-part
invariant-loop-part l = l.list.items ++ map lean_written (into_iter_items l.part-iterator) ≡ map lean_written l.fn.parts
