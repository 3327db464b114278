use Rattle.std.proofs.Common.{ap₂, ◌∙◌}
use Rattle.std.proofs.lemmas.Result.{IfOk-weaker}
use Rattle.clap.specs.Words.{with_rule}
use Rattle.cg_command.proofs.arguments.command_with_options.Goals as goal

pub returns : goal.returns
returns c =
    IfOk-weaker c.arg-3.result _ _ (λ r h. h.shape c.option_named-3.ensures.local
    ∙ ap₂ with_rule (c.in_ok-arg-2.ensures.shape c.option_named-2.ensures.local
    ∙ ap₂ with_rule (c.in_ok-arg.ensures.shape c.option_named.ensures.local
    ∙ ap₂ with_rule c.in_ok-numbered_command.ensures c.option_named.ensures.rule) c.option_named-2.ensures.rule) c.option_named-3.ensures.rule) c.arg-3.ensures
