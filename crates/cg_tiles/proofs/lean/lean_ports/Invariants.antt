use Rattle.std.proofs.Common.{◌≡◌, ◌++◌, map}
use Rattle.std.specs.Vec.Iter.{into_iter_items}
use Rattle.cg_tiles.specs.Lean.{references_once}
use Rattle.cg_tiles.proofs.lean.lean_ports.Given as goal

abbrev pub invariant-loop-references : goal.invariant-loop-references
invariant-loop-references l = l.list.items ++ map references_once (into_iter_items l.references-iterator) ≡ map references_once l.fn.ports
