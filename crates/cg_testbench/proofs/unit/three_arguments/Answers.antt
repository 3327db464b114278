use Rattle.cg_testbench.specs.Unit.{argument_of}
use Rattle.cg_testbench.proofs.Grown.{none_below, one_more}
use Rattle.cg_testbench.proofs.unit.three_arguments.Goals as goal

pub loop-argument-init : goal.loop-argument-init
loop-argument-init c = none_below (argument_of c.args.ports) _ c.new-text.ensures.bytes

pub loop-argument-preserved : goal.loop-argument-preserved
loop-argument-preserved c = one_more (argument_of c.args.ports) c.loop-argument.argument _ _ _ c.as_str.result.now c.loop-argument.invariant c.in_ok-word.ensures c.as_str.ensures.value c.in_ok-push_str.ensures.bytes
