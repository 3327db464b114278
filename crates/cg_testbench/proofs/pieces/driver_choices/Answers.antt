use Rattle.cg_testbench.specs.Pieces.{driver_choice}
use Rattle.cg_testbench.proofs.Grown.{none_below, one_more}
use Rattle.cg_testbench.proofs.pieces.driver_choices.Goals as goal

pub loop-driver-init : goal.loop-driver-init
loop-driver-init c = none_below driver_choice _ c.new-text.ensures.bytes

pub loop-driver-preserved : goal.loop-driver-preserved
loop-driver-preserved c = one_more driver_choice c.loop-driver.driver _ _ _ c.as_str.result.now c.loop-driver.invariant c.in_ok-choice.ensures c.as_str.ensures.value c.in_ok-push_str.ensures.bytes
