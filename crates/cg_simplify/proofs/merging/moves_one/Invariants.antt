use Rattle.std.proofs.Common.{◌≡◌, map, take}
use Rattle.cg_simplify.specs.Live.{moved}
use Rattle.cg_simplify.proofs.merging.moves_one.Given as goal

abbrev pub invariant-loop-operand : goal.invariant-loop-operand
invariant-loop-operand l = map (moved l.into) (take l.operand-index l.operands) ≡ take l.operand-index l.operands
