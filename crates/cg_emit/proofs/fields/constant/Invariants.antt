use Rattle.std.proofs.Common.{◌≡◌, drop}
use Rattle.cg_model.specs.Configured.{constant}
use Rattle.cg_emit.proofs.fields.constant.Given as goal

abbrev pub invariant-loop-operand : goal.invariant-loop-operand
invariant-loop-operand l = constant (drop l.operand-index l.operands) ≡ constant l.operands
