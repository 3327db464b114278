use Rattle.cg_testbench.specs.Setup.{input_lines}
use Rattle.cg_testbench.proofs.Steps.{unbegun, grown}
use Rattle.cg_testbench.proofs.setup.push_inputs.Goals as goal

pub loop-port-init : goal.loop-port-init
loop-port-init c = unbegun _ _

pub loop-port-preserved : goal.loop-port-preserved
loop-port-preserved c = grown (input_lines c.args.turns c.args.image.now.streams) _ _ _ _ c.loop-port.invariant c.in_ok-push_input.ensures
