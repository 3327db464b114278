use Rattle.cg_testbench.specs.Setup.{select_line}
use Rattle.cg_testbench.proofs.Steps.{unbegun, grown}
use Rattle.cg_testbench.proofs.setup.push_selects.Goals as goal

pub loop-resource-init : goal.loop-resource-init
loop-resource-init g c = unbegun _ _

pub loop-resource-preserved : goal.loop-resource-preserved
loop-resource-preserved g c =
    let s = c.args.slot.now in
    grown (select_line s.arch.now (g.C.Contexts.config s.contexts.now) s.number) _ _ _ _ c.loop-resource.invariant c.in_ok-push_select_line.ensures
