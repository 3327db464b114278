use Rattle.cg_testbench.specs.Setup.{word_of_memory}
use Rattle.cg_testbench.proofs.Steps.{unbegun, grown}
use Rattle.cg_testbench.proofs.setup.push_memory.Goals as goal

pub loop-at-init : goal.loop-at-init
loop-at-init c = unbegun _ _

pub loop-at-preserved : goal.loop-at-preserved
loop-at-preserved c = grown (word_of_memory c.args.memory.now) _ _ _ _ c.loop-at.invariant c.in_ok-push_memory_word.ensures
