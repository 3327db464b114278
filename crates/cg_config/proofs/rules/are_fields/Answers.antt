use Rattle.std.proofs.Common.{sym, ◌∙◌}
use Rattle.cg_config.proofs.Fielded.{are_kept, are_right}
use Rattle.cg_config.proofs.rules.are_fields.Goals as goal

pub returns : goal.returns
returns c =
    let f = c.args.fields.now in
    (λ e. are_kept c.args.ops f c.are_typed.ensures (sym c.fields_right.ensures ∙ e), λ are. c.fields_right.ensures ∙ are_right c.args.ops f are)
