use Rattle.cg_testbench.specs.Setup.{argument_lines}
use Rattle.cg_testbench.proofs.Steps.{unbegun, grown}
use Rattle.cg_testbench.proofs.setup.push_arguments.Goals as goal

pub loop-number-init : goal.loop-number-init
loop-number-init c = unbegun _ _

pub loop-number-preserved : goal.loop-number-preserved
loop-number-preserved c =
    grown (argument_lines c.args.cell.now c.args.slot c.args.fields.now) _ _ _ _ c.loop-number.invariant c.in_ok-push_argument.ensures
