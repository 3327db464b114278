use Rattle.cg_testbench.specs.Setup.{slot_lines}
use Rattle.cg_testbench.proofs.Steps.{unbegun, grown}
use Rattle.cg_testbench.proofs.setup.push_configuration.Goals as goal

pub loop-number-init : goal.loop-number-init
loop-number-init g c = unbegun _ _

pub loop-number-preserved : goal.loop-number-preserved
loop-number-preserved g c =
    grown (slot_lines c.args.arch.now (g.C.Contexts.config c.args.contexts.now)) _ _ _ _ c.loop-number.invariant c.in_ok-push_slot.ensures
