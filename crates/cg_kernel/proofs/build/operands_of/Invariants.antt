use Rattle.std.proofs.Common.{◌≡◌, map, take}
use Rattle.cg_kernel.specs.Answer.{operand_of}
use Rattle.cg_kernel.proofs.build.operands_of.Given as goal

abbrev pub invariant-loop-arg : goal.invariant-loop-arg
invariant-loop-arg l = l.operands.items ≡ map (operand_of l.written) (take l.arg-index l.args)
