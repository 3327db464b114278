use Rattle.cg_testbench.specs.Unit.{stage_register}
use Rattle.cg_testbench.proofs.Grown.{none_below, one_more}
use Rattle.cg_testbench.proofs.unit.all_stage_registers.Goals as goal

pub loop-cycles-init : goal.loop-cycles-init
loop-cycles-init c = none_below stage_register _ c.new-text.ensures.bytes

pub loop-cycles-preserved : goal.loop-cycles-preserved
loop-cycles-preserved c = one_more stage_register c.loop-cycles.cycles _ _ _ c.as_str.result.now c.loop-cycles.invariant c.in_ok-register.ensures c.as_str.ensures.value c.in_ok-push_str.ensures.bytes
