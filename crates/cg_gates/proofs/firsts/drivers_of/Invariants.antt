use Rattle.std.proofs.Common.{map, take}
use Rattle.cg_gates.specs.Shape.{shape_of}
use Rattle.cg_gates.specs.Numbers.{AreFirst, by_net}
use Rattle.cg_gates.proofs.firsts.drivers_of.Given as goal

abbrev pub invariant-loop-number : goal.invariant-loop-number
invariant-loop-number l = AreFirst l.numbers by_net (take l.number (map shape_of l.cells))
