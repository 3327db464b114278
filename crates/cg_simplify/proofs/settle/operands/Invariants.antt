use Rattle.std.proofs.Common.{◌≡◌, [], false}
use Rattle.cg_simplify.specs.Settling.{IsOver}
use Rattle.cg_simplify.proofs.settle.operands.Given as goal

abbrev pub invariant-loop-number : goal.invariant-loop-number
invariant-loop-number l = record {
  over : IsOver l.kernel l.walk;
  unchanged : l.walk.changed ≡ false → l.walk.draft ≡ record { nodes = l.kernel.nodes; order = [] };
}
