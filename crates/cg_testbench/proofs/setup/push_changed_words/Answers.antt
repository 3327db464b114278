use Rattle.cg_testbench.specs.Setup.{changed_word}
use Rattle.cg_testbench.proofs.Steps.{unbegun, grown}
use Rattle.cg_testbench.proofs.setup.push_changed_words.Goals as goal

pub loop-at-init : goal.loop-at-init
loop-at-init c = unbegun _ _

pub loop-at-preserved : goal.loop-at-preserved
loop-at-preserved c = grown (changed_word c.args.before.now c.args.after.now) _ _ _ _ c.loop-at.invariant c.in_ok-push_changed_word.ensures
