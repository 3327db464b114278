use Rattle.cg_testbench.specs.Array.{module_at}
use Rattle.cg_testbench.proofs.Steps.{unbegun, grown}
use Rattle.cg_testbench.proofs.array.push_modules.Goals as goal

pub loop-k-init : goal.loop-k-init
loop-k-init c = unbegun _ _

pub loop-k-preserved : goal.loop-k-preserved
loop-k-preserved c = grown (module_at c.args.cells.now) _ _ _ _ c.loop-k.invariant c.in_ok-push_module.ensures
