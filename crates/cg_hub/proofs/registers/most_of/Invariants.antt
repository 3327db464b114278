use Rattle.std.proofs.Common.{◌≡◌, drop}
use Rattle.std.specs.Prelude.{max}
use Rattle.cg_hub.specs.Hub.{most_of}
use Rattle.cg_hub.proofs.registers.most_of.Given as goal

abbrev pub invariant-loop-operand : goal.invariant-loop-operand
invariant-loop-operand l = max l.most (most_of l.node (drop l.operand-index l.operands)) ≡ most_of l.node l.operands
