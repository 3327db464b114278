use Rattle.std.proofs.Common.{◌≡◌, take}
use Rattle.cg_model.proofs.copy.copy_operands.Given as goal

abbrev pub invariant-loop-operand : goal.invariant-loop-operand
invariant-loop-operand l = l.copies.items ≡ take l.operand-index l.operands
