use Rattle.std.proofs.Common.{◌≡◌, take, map}
use Rattle.cg_loop.specs.Known.{operand_of}
use Rattle.cg_loop.proofs.code.operands_of.Given as goal

abbrev pub invariant-loop-value : goal.invariant-loop-value
invariant-loop-value l = l.operands.items ≡ map operand_of (take l.value-index l.values)
