use Rattle.std.proofs.Common.{map, take}
use Rattle.cg_gates.specs.Shape.{shape_of}
use Rattle.cg_gates.specs.Gates.{is_instance}
use Rattle.cg_gates.specs.Numbers.{AreFirst}
use Rattle.cg_gates.proofs.firsts.unit_cells.Given as goal

abbrev pub invariant-loop-number : goal.invariant-loop-number
invariant-loop-number l = AreFirst l.numbers is_instance (take l.number (map shape_of l.cells))
