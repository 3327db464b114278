use Rattle.cg_image_text.specs.Printed.{row_word}
use Rattle.cg_list_laws.proofs.Grown.{unbegun, grown}
use Rattle.cg_image_text.proofs.print.push_row_words.Goals as goal

pub loop-k-init : goal.loop-k-init
loop-k-init c = unbegun _ _

pub loop-k-preserved : goal.loop-k-preserved
loop-k-preserved c = grown (row_word c.args.words.now c.args.row) _ _ _ _ c.loop-k.invariant c.in_ok-push_word.ensures
