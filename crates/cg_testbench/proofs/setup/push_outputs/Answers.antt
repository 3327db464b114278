use Rattle.cg_testbench.specs.Setup.{output_lines}
use Rattle.cg_testbench.proofs.Steps.{unbegun, grown}
use Rattle.cg_testbench.proofs.setup.push_outputs.Goals as goal

pub loop-port-init : goal.loop-port-init
loop-port-init c = unbegun _ _

pub loop-port-preserved : goal.loop-port-preserved
loop-port-preserved c = grown (output_lines c.args.image.now.streams) _ _ _ _ c.loop-port.invariant c.in_ok-push_output.ensures
