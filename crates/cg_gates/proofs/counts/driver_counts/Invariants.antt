use Rattle.std.proofs.Common.{map, take}
use Rattle.cg_gates.specs.Shape.{shape_of}
use Rattle.cg_gates.specs.Numbers.{AreCounts}
use Rattle.cg_gates.proofs.counts.driver_counts.Given as goal

abbrev pub invariant-loop-cell : goal.invariant-loop-cell
invariant-loop-cell l = AreCounts l.counts (map shape_of (take l.cell-index l.cells))
