use Rattle.cg_image_text.specs.Printed.{row_text}
use Rattle.cg_list_laws.proofs.Grown.{unbegun, grown}
use Rattle.cg_image_text.proofs.print.push_rows.Goals as goal

pub loop-row-init : goal.loop-row-init
loop-row-init c = unbegun _ _

pub loop-row-preserved : goal.loop-row-preserved
loop-row-preserved c = grown (row_text c.args.words.now) _ _ _ _ c.loop-row.invariant c.in_ok-push_row.ensures
