use Rattle.std.proofs.Common.{◌++◌, [], ◌∷◌, ap, ◌∙◌}
use Rattle.std.proofs.lemmas.List.{replicate-append-replicate}
use Rattle.cg_config.proofs.config.row_of.Goals as goal

pub loop-item-preserved : goal.loop-item-preserved
loop-item-preserved g c = c.in_ok-push.ensures.items ∙ ap (λ z. z ++ c.args.item ∷ []) c.loop-item.invariant ∙ replicate-append-replicate c.loop-item._item 1 c.args.item
