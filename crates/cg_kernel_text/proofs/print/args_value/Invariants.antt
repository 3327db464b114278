use Rattle.std.proofs.Common.{◌≡◌, map, take}
use Rattle.serde_json.specs.View.{view}
use Rattle.cg_kernel_text.specs.Printed.{operand_data}
use Rattle.cg_kernel_text.proofs.print.args_value.Given as goal

abbrev pub invariant-loop-operand : goal.invariant-loop-operand
invariant-loop-operand l = map view l.list.items ≡ map (operand_data l.nodes) (take l.operand-index l.operands)
