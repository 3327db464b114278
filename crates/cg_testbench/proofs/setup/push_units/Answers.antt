use Rattle.cg_testbench.specs.Setup.{unit_lines}
use Rattle.cg_testbench.proofs.Steps.{unbegun, grown}
use Rattle.cg_testbench.proofs.setup.push_units.Goals as goal

pub loop-unit-init : goal.loop-unit-init
loop-unit-init g c = unbegun _ _

pub loop-unit-preserved : goal.loop-unit-preserved
loop-unit-preserved g c =
    let s = c.args.slot.now in
    grown (unit_lines s.arch.now (g.C.Contexts.config s.contexts.now) s.number) _ _ _ _ c.loop-unit.invariant c.in_ok-push_unit.ensures
