use Rattle.cg_testbench.specs.Pieces.{port_input}
use Rattle.cg_testbench.proofs.Grown.{none_below, one_more}
use Rattle.cg_testbench.proofs.unit.all_port_inputs.Goals as goal

pub loop-argument-init : goal.loop-argument-init
loop-argument-init c = none_below port_input _ c.new-text.ensures.bytes

pub loop-argument-preserved : goal.loop-argument-preserved
loop-argument-preserved c = one_more port_input c.loop-argument.argument _ _ _ c.as_str.result.now c.loop-argument.invariant c.in_ok-input.ensures c.as_str.ensures.value c.in_ok-push_str.ensures.bytes
