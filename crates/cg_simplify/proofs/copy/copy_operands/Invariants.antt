use Rattle.std.proofs.Common.{◌≡◌, map, take}
use Rattle.cg_simplify.specs.Live.{moved}
use Rattle.cg_simplify.proofs.copy.copy_operands.Given as goal

abbrev pub invariant-loop-operand : goal.invariant-loop-operand
invariant-loop-operand l = l.copies.items ≡ map (moved l.numbers) (take l.operand-index l.operands)
