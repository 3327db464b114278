use Rattle.std.proofs.Common.{◌++◌, [], ◌∷◌, replicate, ap, ◌∙◌}
use Rattle.std.proofs.lemmas.List.{replicate-append-replicate}
use Rattle.cg_config.proofs.config.rows_of.Goals as goal

pub loop-row-preserved : goal.loop-row-preserved
loop-row-preserved g c =
    let row = replicate c.args.count c.args.item in
    c.in_ok-push.ensures.items ∙ ap (λ z. z ++ c.in_ok-row_of.field-0 ∷ []) c.loop-row.invariant ∙ ap (λ z. replicate c.loop-row._row row ++ z ∷ []) c.in_ok-row_of.ensures ∙ replicate-append-replicate c.loop-row._row 1 row
